pub mod LevelLoops
pub mod EntryEnds
pub mod EntryLines
pub mod EntryLemmas
pub mod EntryUtf8
pub mod EntryErrors
pub mod EntryTexts
