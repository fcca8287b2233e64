pub mod Fates
pub mod Gathered
pub mod Pumped
pub mod Routed
pub mod Routes
pub mod Steps
pub mod text
pub mod bridge
