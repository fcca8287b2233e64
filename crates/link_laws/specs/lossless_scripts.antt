pub mod Scripts
pub mod Lossless
pub mod Within
