pub mod Disjoint
pub mod FieldLemmas
pub mod LineLemmas
pub mod ScriptLemmas
pub mod SettingLemmas
