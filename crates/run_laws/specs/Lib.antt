pub mod calm
pub mod crews
pub mod statuses
