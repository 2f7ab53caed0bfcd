pub mod Apart
pub mod Matrix
pub mod Text
pub mod ArrowText
pub mod Pages
pub mod Laws
