pub mod Courses
pub mod Judging
pub mod KindLemmas
mod Names
mod RanksLaws
pub mod Writing
