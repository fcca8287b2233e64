pub mod ChunkSizes
pub mod SpokenLaws
