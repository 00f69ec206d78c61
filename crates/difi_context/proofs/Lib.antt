pub mod ContextLaws
pub mod SpellingLaws
pub mod EncodingLemmas
