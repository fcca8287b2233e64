pub mod Carried
pub mod Contents
mod Copied
pub mod Counted
mod Escapes
mod Examples
mod Flags
pub mod Headers
mod Tables
mod TextRuns
mod Texts
pub mod Machines
pub mod Marks
pub mod Numbers
pub mod Parting
mod Laying
mod Placed
pub mod ReadBack
pub mod Register
mod Runs
mod Unescaping
mod Words
