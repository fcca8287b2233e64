pub mod Laws
pub mod Load
