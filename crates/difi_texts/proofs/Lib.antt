pub mod Texts
pub mod NextNumber
pub mod PutWords
