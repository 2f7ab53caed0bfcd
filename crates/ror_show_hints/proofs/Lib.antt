pub mod FormLemmas
pub mod LineProofs
