pub mod LeavingLemmas
pub mod PassLemmas
pub mod ReaderLemmas
pub mod SessionLemmas
pub mod StepLemmas
pub mod WriterLemmas
