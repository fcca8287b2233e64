pub mod Saying
pub mod Polling
pub mod Opens
pub mod Beside
pub mod Carrying
