pub mod Laws
pub mod Ratios
pub mod Rows
pub mod Wide
