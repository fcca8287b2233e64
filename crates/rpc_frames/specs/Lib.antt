pub mod Counting
pub mod Heard
pub mod HeardAs
pub mod Laws
pub mod Listening
pub mod Written
