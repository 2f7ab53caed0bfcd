pub mod Rows
pub mod Sheet
pub mod Looks
pub mod Scales
pub mod Numbers
pub mod Faults
pub mod Laws
