pub mod Desks
pub mod Grammar
pub mod Command
pub mod Session
pub mod Faults
pub mod Sound
pub mod Laws
