pub mod Comparison
pub mod Coprime
pub mod EliminationLemmas
pub mod EntryLemmas
pub mod MadeLemmas
pub mod RatioLemmas
pub mod WideLemmas
