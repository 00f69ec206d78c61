pub mod Site
pub mod Delivered
pub mod Cause
pub mod Truth
pub mod Consequences
