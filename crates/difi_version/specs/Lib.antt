pub mod Version
pub mod Steps
