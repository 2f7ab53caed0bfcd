pub mod CommonDivisors
pub mod Quotients
