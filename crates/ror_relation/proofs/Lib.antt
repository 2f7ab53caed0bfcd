pub mod Notes
pub mod Searching
pub mod NoteBounds
pub mod Concluding
pub mod Printing
pub mod PairLemmas
