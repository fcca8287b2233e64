pub mod Okay
