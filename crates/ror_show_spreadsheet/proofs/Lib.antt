pub mod Loops
pub mod Places
pub mod Renamed
pub mod Cutting
pub mod Spelt
pub mod Written
pub mod ReadBack
pub mod Values
