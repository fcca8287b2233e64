-- What the two ends on one thread share, with the role as an argument.
pub mod EndHolds
pub mod EndState
pub mod Feeding
pub mod OwnEntries
pub mod Working
