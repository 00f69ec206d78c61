pub mod FrameWords
pub mod Lines
pub mod Prologue
pub mod CommandDetails
pub mod Details
pub mod Accounts
