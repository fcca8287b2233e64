pub mod sizes
pub mod rounds
pub mod ticks
pub mod messages
pub mod sends
