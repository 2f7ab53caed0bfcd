pub mod Pieces
pub mod ElementLemmas
pub mod Loops
