pub mod Kind
pub mod Reports
pub mod Steps
pub mod Writing
pub mod Laws
pub mod Headed
pub mod Pairs
