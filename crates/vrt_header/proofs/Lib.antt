pub mod PrologueLaws
pub mod SpellingLaws
pub mod KindLaws
