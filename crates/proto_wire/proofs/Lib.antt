pub mod EntryLaws
pub mod FrontLaws
pub mod OptionLemmas
pub mod PlaceLaws
pub mod ReadsLaws
mod ShortestLaws
pub mod SpellingLaws
pub mod StepLaws
pub mod UnreadLaws
pub mod VarintLemmas
