pub mod Control
pub mod Cancel
pub mod FirstWord
pub mod Steps
