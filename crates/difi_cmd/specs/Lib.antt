pub mod Text
pub mod Telling
pub mod LineOfWords
pub mod CommandOfOptions
pub mod Outcome
pub mod Migrated
pub mod ReleasesOf
pub mod Migrating
