pub mod Chunk
pub mod ChunkText
pub mod ChunkTypes
pub mod Reading
