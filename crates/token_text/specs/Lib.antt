pub mod Arguments
pub mod Book
pub mod Format
pub mod Computed
pub mod Printing
pub mod Spelling
pub mod Steps
pub mod lines
