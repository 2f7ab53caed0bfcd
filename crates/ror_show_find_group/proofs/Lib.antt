pub mod JudgeLemmas
pub mod VoteLemmas
pub mod CellLemmas
pub mod AllLemmas
pub mod CountLemmas
pub mod PairLemmas
