pub mod Text
pub mod Reading
pub mod Printing
pub mod EntryFaults
pub mod EntryLaws
