pub mod RankLines
pub mod RankTexts
pub mod EntryLemmas
pub mod EntryUtf8
pub mod GivenTexts
pub mod RankWords
pub mod RankErrors
pub mod ManyLoops
