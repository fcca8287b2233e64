pub mod Calling
pub mod Ends
pub mod Events
pub mod Tasks
pub mod Telling
