pub mod Profile
pub mod Header
pub mod Prologue
pub mod Steps
pub mod Spelling
