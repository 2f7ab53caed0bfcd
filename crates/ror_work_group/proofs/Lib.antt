pub mod KindLemmas
pub mod HeadLemmas
pub mod GroupCourses
pub mod Writing
pub mod Making
pub mod Printing
pub mod Judging
pub mod GroupLaws
