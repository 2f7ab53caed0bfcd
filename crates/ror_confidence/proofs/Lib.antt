pub mod Nested
pub mod Truth
pub mod Checks
pub mod Searches
pub mod ReadLevels
pub mod Finds
pub mod LevelsTexts
