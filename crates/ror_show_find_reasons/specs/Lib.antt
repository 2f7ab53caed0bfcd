pub mod Carrying
pub mod Pairs
pub mod Bounds
pub mod Lines
pub mod Laws
pub mod Meaning
