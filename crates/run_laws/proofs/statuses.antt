mod ClientEndLemmas
pub mod CrewLemmas
mod LiveStatusLemmas
mod StatusLemmas
