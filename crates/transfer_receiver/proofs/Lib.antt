pub mod PieceSteps
pub mod RunLaws
