pub mod Contents
pub mod Faults
pub mod History
pub mod Inverses
pub mod Laws
