pub mod OutLemmas
pub mod RestLemmas
pub mod StopLemmas
mod ChannelLemmas
mod StockLemmas
pub mod MadeLemmas
pub mod HeardLemmas
