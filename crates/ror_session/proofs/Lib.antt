pub mod LineLemmas
pub mod DeskLemmas
pub mod CommandLemmas
pub mod SaidLemmas
pub mod SessionLemmas
pub mod TextLemmas
pub mod SoundLemmas
