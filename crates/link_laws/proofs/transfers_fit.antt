pub mod Stores
pub mod Added
pub mod Tasks
pub mod Walking
pub mod Fitting
pub mod OfScripts
pub mod Names
pub mod Sent
