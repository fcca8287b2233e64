mod Begin
mod Books
mod Chain
mod ClientRound
mod ClientStep
mod Ends
mod Few
mod Late
pub mod Links
mod Comes
pub mod InTime
mod Mixes
pub mod Numbers
mod Rounds
mod ServerStep
mod StrayStep
pub mod Survive
mod Tail
mod TickStep
mod TimeStep
