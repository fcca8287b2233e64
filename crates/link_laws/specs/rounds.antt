pub mod Polls
pub mod Carrying
