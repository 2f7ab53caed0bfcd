pub mod Suiting
pub mod Entries
pub mod Levels
pub mod Steps
pub mod Laws
