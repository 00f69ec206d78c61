pub mod FrontLaws
pub mod CommandPrologueLaws
pub mod SpellingLaws
