pub mod Entries
pub mod Discriminate
pub mod Steps
pub mod Laws
