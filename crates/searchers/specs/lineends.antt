pub mod Lines
pub mod OnText
