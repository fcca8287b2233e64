pub mod Heard
pub mod Transfers
