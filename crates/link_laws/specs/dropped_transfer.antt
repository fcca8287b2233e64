pub mod Dropped
pub mod Passing
pub mod Rounds
pub mod Sessions
pub mod Shows
pub mod Survives
pub mod InTime
