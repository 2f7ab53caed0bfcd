pub mod Courses
pub mod Judging
pub mod KindLemmas
mod Names
mod BestLaws
pub mod Writing
