pub mod RowLemmas
pub mod Cells
pub mod Meaning
