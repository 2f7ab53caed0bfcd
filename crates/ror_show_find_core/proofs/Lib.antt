pub mod Left
pub mod Core
pub mod Judging
pub mod Lists
pub mod CoreMeaning
