pub mod ReleaseLaws
pub mod Told
pub mod Sixteen
pub mod Written
pub mod Laid
pub mod Spelling
pub mod Pushed
