pub mod Nothing
pub mod Walking
