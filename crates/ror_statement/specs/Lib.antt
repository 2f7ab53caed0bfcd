pub mod Statements
pub mod Questions
pub mod Names
pub mod RowNumbers
pub mod Laws
