pub mod Words
pub mod Refusals
pub mod Page
pub mod Pages
