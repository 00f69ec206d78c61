pub mod Positions
pub mod Refusals
pub mod Rules
pub mod Layout
pub mod Sizes
pub mod Release
pub mod Steps
pub mod Front
