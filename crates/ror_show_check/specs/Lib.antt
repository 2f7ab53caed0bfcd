pub mod Reading
pub mod Truth
pub mod Checking
pub mod CheckLaws
