pub mod Flushing
pub mod PutLemmas
pub mod RestLemmas
pub mod RoundLemmas
pub mod RunLemmas
pub mod StreamLemmas
pub mod AsideLemmas
