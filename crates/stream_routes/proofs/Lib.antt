pub mod PortLaws
mod Search
