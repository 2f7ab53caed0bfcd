pub mod Sheets
pub mod Showing
pub mod Groups
pub mod ChoreLemmas
pub mod Saying
