pub mod Forms
pub mod Hints
pub mod Laws
