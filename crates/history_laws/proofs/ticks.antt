mod Examples
mod Halfway
mod OwnRun
mod PutLemmas
pub mod SpeakLemmas
pub mod TickLemmas
