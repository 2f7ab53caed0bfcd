pub mod OddParts
pub mod Within
