pub mod WorkSteps
pub mod SettlingLemmas
