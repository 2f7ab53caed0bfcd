pub mod Value
pub mod ValueFaults
pub mod Meaning
pub mod Laws
pub mod Over
