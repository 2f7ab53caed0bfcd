pub mod Checking
pub mod Rejections
pub mod Truth
pub mod Writing
pub mod Judging
