pub mod Given
pub mod EntryNames
pub mod Text
pub mod Reading
pub mod EntryFaults
pub mod EntryLaws
