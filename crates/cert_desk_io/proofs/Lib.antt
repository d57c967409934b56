pub mod Given
pub mod FrameLaws
