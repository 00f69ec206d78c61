pub mod Numbers
pub mod CaptureFields
pub mod CaptureFile
pub mod Taking
pub mod Reading
pub mod Spelling
pub mod Datagrams
pub mod CaptureGrammar
