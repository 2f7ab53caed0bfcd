pub mod Acceptance
pub mod Laws
pub mod Numbers
pub mod Signs
pub mod Steps
pub mod System
pub mod Values
