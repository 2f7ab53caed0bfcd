pub mod Json
pub mod Steps
pub mod Laws
