pub mod WindowLaws
pub mod OrderLemmas
pub mod WindowLemmas
pub mod DeliveryLemmas
pub mod SameContextLemmas
