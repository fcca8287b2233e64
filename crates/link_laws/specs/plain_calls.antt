pub mod Rests
pub mod Between
pub mod Commands
pub mod Ended
