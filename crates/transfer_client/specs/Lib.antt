pub mod Machine
pub mod Wait
pub mod Read
pub mod Write
pub mod Polling
pub mod Tasks
pub mod Hearing
