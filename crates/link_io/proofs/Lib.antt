pub mod PieceLemmas
pub mod ResourceLemmas
