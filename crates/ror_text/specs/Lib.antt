pub mod Reading
pub mod FirstFault
pub mod Lines
pub mod Numbers
pub mod Ids
pub mod SpacedLines
pub mod Cursor
pub mod Laws
