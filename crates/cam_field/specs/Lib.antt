pub mod Cam
pub mod Ident
pub mod Spelling
