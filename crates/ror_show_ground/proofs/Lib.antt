pub mod Lending
pub mod Lists
pub mod ReadyProofs
pub mod Tests
pub mod TurnLemmas
