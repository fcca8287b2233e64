pub mod TimerLemmas
pub mod PlaceLemmas
pub mod Timing
pub mod LogLemmas
pub mod DueLemmas
pub mod RunLemmas
pub mod HeardLemmas
pub mod Joining
