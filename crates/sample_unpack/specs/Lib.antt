pub mod Bits
pub mod Count
pub mod Lanes
pub mod Samples
