pub mod FrameSteps
pub mod LengthLemmas
pub mod LoadLaws
