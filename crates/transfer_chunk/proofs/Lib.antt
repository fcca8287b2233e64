pub mod ChunkLaws
pub mod ReadSteps
pub mod ReadingLaws
