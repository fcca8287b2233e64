pub mod FirstStates
pub mod LawLemmas
pub mod Limits
pub mod LogLemmas
pub mod UploadLemmas
pub mod OtherLemmas
pub mod ServeLemmas
pub mod TransferSteps
