pub mod WordLaws
pub mod BeginLaws
pub mod WordLemmas
pub mod BitLemmas
pub mod RowLemmas
pub mod GrowingLaws
