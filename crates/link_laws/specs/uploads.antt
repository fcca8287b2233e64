pub mod CallItems
pub mod Okay
pub mod Uploads
