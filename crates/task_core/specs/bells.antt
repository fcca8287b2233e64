pub mod Rings
pub mod Views
pub mod Rule
pub mod Steps
pub mod Bells
