pub mod Sent
pub mod Going
pub mod Feeding
pub mod Outcomes
pub mod RecordReading
pub mod Complete
pub mod Retold
