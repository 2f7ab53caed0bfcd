pub mod Names
pub mod Options
pub mod Drafts
pub mod Import
pub mod Notes
pub mod Laws
