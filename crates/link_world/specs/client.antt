pub mod OnePoll
pub mod Speaking
pub mod Underway
pub mod ClientSide
pub mod Asking
pub mod Working
