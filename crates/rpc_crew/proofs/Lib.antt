pub mod PumpLemmas
pub mod RingLemmas
pub mod WholeFrames
pub mod WholeSession
pub mod WorkerLists
pub mod WriterRounds
