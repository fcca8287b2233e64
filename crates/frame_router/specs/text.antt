pub mod Flows
pub mod Following
pub mod Lines
pub mod Printed
