pub mod Deadline
pub mod PieceLists
