pub mod ChoreLemmas
pub mod RunLemmas
