pub mod Courses
pub mod Sheets
pub mod Groups
pub mod Chores
pub mod Named
pub mod Saying
