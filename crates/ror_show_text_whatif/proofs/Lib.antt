pub mod Most
pub mod Joining
