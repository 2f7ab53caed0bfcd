pub mod DominanceProofs
pub mod SceneLemmas
