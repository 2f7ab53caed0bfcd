pub mod Notes
pub mod Answers
