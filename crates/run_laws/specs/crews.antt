pub mod CalmLoads
pub mod CalmSessions
