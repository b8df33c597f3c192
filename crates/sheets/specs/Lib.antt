pub mod Apart
pub mod Escapes
pub mod Rows
pub mod Shown
