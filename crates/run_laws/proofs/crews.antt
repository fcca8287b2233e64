pub mod LoadLemmas
pub mod SessionLemmas
