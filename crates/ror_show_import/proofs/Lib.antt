pub mod Importing
pub mod Telling
