pub mod Said
pub mod Service
pub mod Tasks
