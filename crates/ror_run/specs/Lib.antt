pub mod Chores
pub mod Running
