-- What contracts say of the plain table of calls.
pub mod Agrees
pub mod Closing
pub mod Moves
pub mod Newest
pub mod Touch
pub mod Turns
