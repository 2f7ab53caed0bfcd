pub mod Names
pub mod Text
pub mod Printing
pub mod Words
pub mod Questions
pub mod Reading
pub mod Expected
pub mod Laws
