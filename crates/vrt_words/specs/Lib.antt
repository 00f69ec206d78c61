pub mod Words
pub mod Begins
pub mod Buffer
pub mod Growing
pub mod Sizes
