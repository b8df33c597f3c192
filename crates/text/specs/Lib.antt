pub mod OfText
pub mod Text
pub mod Checks
