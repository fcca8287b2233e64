pub mod Drops
pub mod Rounds
pub mod Survives
pub mod InTime
pub mod GivesUp
