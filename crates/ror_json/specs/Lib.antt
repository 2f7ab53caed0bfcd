pub mod Form
pub mod Reading
pub mod Names
pub mod Shapes
pub mod Texts
pub mod Laws
