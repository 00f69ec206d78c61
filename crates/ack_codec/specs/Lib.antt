pub mod Ack
pub mod Responses
pub mod Steps
