pub mod Working
pub mod Running
mod RowProofs
