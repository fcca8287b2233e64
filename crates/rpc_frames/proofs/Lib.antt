pub mod Growing
pub mod HeardBack
pub mod Listens
pub mod Pieces
pub mod Sizes
mod TypeNumbers
pub mod WholeFrames
pub mod HeardExactly
