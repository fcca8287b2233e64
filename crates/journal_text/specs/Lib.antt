pub mod Fields
pub mod Finds
pub mod Line
pub mod Printed
pub mod Reading
pub mod Verdicts
