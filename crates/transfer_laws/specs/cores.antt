pub mod Transfer
pub mod Asks
