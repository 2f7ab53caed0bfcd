pub mod KindLemmas
pub mod Printing
pub mod Suits
pub mod LevelCourses
pub mod Writing
pub mod Judging
pub mod SpanLaws
