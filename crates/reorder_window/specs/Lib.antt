pub mod Window
pub mod State
pub mod Steps
pub mod Delivery
pub mod SameContext
