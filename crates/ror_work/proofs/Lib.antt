pub mod Making
pub mod Judging
