pub mod DataLaws
pub mod SpellingLaws
