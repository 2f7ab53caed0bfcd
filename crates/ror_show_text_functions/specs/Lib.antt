pub mod Ranges
pub mod ShareText
pub mod Blocks
pub mod Text
pub mod Pages
pub mod Rises
