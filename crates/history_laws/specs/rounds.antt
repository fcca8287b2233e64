pub mod Rest
pub mod Rounds
pub mod Streams
