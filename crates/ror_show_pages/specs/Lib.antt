pub mod Bodies
pub mod Choosing
pub mod Pages
pub mod Reads
pub mod PageLaws
pub mod ReadLines
pub mod Shown
