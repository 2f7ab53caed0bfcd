pub mod Nothing
pub mod Text
pub mod ClassText
pub mod Pages
