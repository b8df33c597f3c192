pub mod Opened
pub mod Read
pub mod OnText
