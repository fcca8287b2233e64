pub mod Lines
pub mod Starting
pub mod Finishing
pub mod Passing
pub mod Walking
