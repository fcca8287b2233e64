pub mod CalmCrews
pub mod ClientEnds
pub mod Statuses
