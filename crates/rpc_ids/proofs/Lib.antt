pub mod HashLemmas
pub mod RegistryLemmas
