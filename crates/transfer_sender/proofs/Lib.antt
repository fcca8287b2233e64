pub mod CutLemmas
pub mod CutLaws
pub mod AnswerLemmas
pub mod RunLaws
