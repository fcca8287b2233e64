pub mod Speaking
pub mod OneRun
pub mod InOrder
