pub mod Stops
pub mod GoesOut
pub mod Resting
pub mod ServerSide
