pub mod Entries
pub mod Steps
pub mod Group
pub mod Laws
