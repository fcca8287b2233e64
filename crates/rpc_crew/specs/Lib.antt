pub mod Batches
pub mod WholeFrames
