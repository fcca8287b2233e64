pub mod Members
pub mod OfCalls
pub mod Arrived
pub mod Methods
