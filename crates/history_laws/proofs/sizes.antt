pub mod ArrivalLemmas
pub mod Books
pub mod CostLemmas
pub mod GoodStates
pub mod HistoryLemmas
pub mod RunLemmas
pub mod TurnLemmas
