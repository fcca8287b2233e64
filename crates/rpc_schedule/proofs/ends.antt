-- What each step leaves of an end on one thread.
pub mod CallSteps
pub mod EntrySteps
pub mod FedLemmas
pub mod IdleLemmas
