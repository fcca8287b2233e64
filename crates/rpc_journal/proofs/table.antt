-- How the plain table of calls follows its history.
pub mod AgreeLemmas
pub mod CloseLemmas
pub mod DeedLemmas
pub mod FinishLemmas
pub mod FollowLemmas
pub mod KnownStates
pub mod NewestLemmas
pub mod NoticeLemmas
pub mod OpenLemmas
pub mod RoomLemmas
pub mod StepLemmas
pub mod TableLemmas
pub mod TableSteps
