pub mod BookLemmas
pub mod FormatLemmas
pub mod MessageLemmas
pub mod PrintLemmas
pub mod PrintedLaws
pub mod ReadLemmas
pub mod WriteLemmas
