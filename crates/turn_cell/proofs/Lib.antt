pub mod Places
pub mod Keeping
pub mod Counting
pub mod Calls
pub mod Closing
pub mod Passes
