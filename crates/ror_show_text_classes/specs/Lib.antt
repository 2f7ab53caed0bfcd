pub mod Text
pub mod BoundText
pub mod Pages
