pub mod Bridges
pub mod Printed
