pub mod Far
pub mod Needles
pub mod OnText
pub mod Times
