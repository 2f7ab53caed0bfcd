pub mod Reducts
pub mod ReductFaults
pub mod Reasons
pub mod Functions
pub mod Laws
pub mod CheckSteps
pub mod SearchSteps
