pub mod CallLemmas
pub mod DeadlineLemmas
pub mod EndLemmas
pub mod FetchLemmas
pub mod TellLemmas
pub mod WalkLemmas
