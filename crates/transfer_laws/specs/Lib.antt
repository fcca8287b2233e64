pub mod cores
pub mod words
pub mod pairs
pub mod losses
