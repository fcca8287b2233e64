pub mod Generator
pub mod Script
pub mod lossy
pub mod text
