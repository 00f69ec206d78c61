pub mod CamLaws
pub mod PlainCam
