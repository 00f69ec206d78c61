pub mod State
pub mod Marks
pub mod Looks
pub mod Cut
pub mod AllContexts
