pub mod HearingLaws
pub mod PollLemmas
pub mod TakeLemmas
