pub mod Context
pub mod Steps
