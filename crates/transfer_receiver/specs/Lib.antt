pub mod Phase
pub mod Receiver
pub mod PieceRules
pub mod TickRules
pub mod Answers
pub mod Run
