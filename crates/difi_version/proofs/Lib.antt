pub mod VersionLaws
pub mod SpellingLaws
