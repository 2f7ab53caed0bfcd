pub mod OrderLemmas
pub mod LinkLemmas
pub mod ChainLemmas
pub mod CellLemmas
pub mod NodeLemmas
pub mod CallLemmas
