pub mod CommandPrologue
pub mod Steps
