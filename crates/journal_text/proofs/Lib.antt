pub mod AgainLemmas
pub mod AnswerLemmas
pub mod FieldLemmas
pub mod FindLemmas
pub mod JournalLemmas
pub mod LineLemmas
pub mod PrintLemmas
pub mod VerdictLemmas
