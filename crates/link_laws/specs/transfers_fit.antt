pub mod Fits
pub mod Scripts
