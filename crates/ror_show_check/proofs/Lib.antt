pub mod Checking
pub mod Fetching
pub mod Stood
pub mod Written
