pub mod PrintLemmas
pub mod Desks
pub mod CourseLemmas
pub mod FetchLemmas
pub mod InputLemmas
pub mod AnyRun
