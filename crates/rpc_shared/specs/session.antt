pub mod Crew
pub mod Leaving
pub mod Log
pub mod Reasons
pub mod Ring
pub mod Sessions
