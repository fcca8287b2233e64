pub mod Sessions
pub mod Receivers
pub mod ServiceFits
pub mod Service
pub mod Polls
pub mod Uploads
pub mod Downloads
