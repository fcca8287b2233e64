pub mod Prefixes
pub mod Makers
