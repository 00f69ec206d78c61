pub mod Buffers
pub mod Ownership
