pub mod Helpers
pub mod Laws
pub mod Looks
pub mod OwnRuns
pub mod Steps
pub mod Waits
pub mod session
