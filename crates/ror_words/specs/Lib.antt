pub mod Commands
pub mod Words
pub mod WordTable
pub mod Named
