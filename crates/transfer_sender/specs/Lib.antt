pub mod Sender
pub mod Cut
pub mod Answer
pub mod Run
