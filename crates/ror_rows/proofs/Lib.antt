pub mod Building
pub mod ClassConditions
pub mod Deciding
pub mod Entries
pub mod Extending
pub mod FormLemmas
pub mod Holding
