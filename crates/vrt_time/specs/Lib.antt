pub mod Time
