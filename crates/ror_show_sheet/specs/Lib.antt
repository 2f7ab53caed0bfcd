pub mod Notes
pub mod Pieces
pub mod Sheet
pub mod Beside
