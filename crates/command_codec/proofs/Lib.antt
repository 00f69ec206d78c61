pub mod FirstWordLaws
pub mod ContentLaws
pub mod ControlLaws
pub mod CancelLaws
