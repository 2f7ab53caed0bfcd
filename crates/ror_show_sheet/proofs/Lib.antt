pub mod Chains
pub mod NoteLemmas
