pub mod Judges
pub mod Matrix
pub mod Apart
pub mod Text
pub mod Csv
pub mod Dot
