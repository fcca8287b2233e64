pub mod Boxed
pub mod Fun
pub mod HandlerRule
pub mod Limits
