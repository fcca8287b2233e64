pub mod Alike
pub mod Alone
pub mod Calm
pub mod Reports
pub mod Taken
