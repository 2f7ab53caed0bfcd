pub mod Conclusions
pub mod Values
pub mod Walks
pub mod MeetingEach
pub mod Relations
pub mod Ends
pub mod Classes
pub mod FewerStatements
