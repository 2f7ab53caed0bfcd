pub mod Cells
pub mod Chain
pub mod Laws
