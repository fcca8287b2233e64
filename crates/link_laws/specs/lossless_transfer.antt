pub mod Shows
pub mod Chunks
pub mod Begins
pub mod Finishes
