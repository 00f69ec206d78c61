pub mod Tells
pub mod Outcome
pub mod Status
pub mod Progress
pub mod Steps
pub mod Trial
