pub mod ClosingLemmas
pub mod LawLemmas
pub mod LawfulLists
pub mod StandingLemmas
pub mod Existence
