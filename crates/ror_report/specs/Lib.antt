pub mod Desk
pub mod Names
pub mod Text
pub mod Printing
pub mod Reading
pub mod Faults
pub mod Laws
