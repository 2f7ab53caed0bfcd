pub mod States
pub mod Printing
pub mod Statuses
pub mod Stops
pub mod Courses
pub mod Inputs
pub mod Runs
