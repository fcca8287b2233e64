pub mod Names
pub mod Registry
pub mod Status
