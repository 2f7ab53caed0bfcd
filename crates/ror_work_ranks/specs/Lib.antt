pub mod Entries
pub mod Ranking
pub mod Steps
pub mod Laws
