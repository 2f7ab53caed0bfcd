pub mod Wide
pub mod Pairs
pub mod Decisions
pub mod DecidedLists
