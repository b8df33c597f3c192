pub mod Pages
pub mod Replaced
pub mod Rests
