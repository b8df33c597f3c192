pub mod Longest
pub mod Scan
pub mod Bounded
pub mod OnText
pub mod Opened
pub mod Spaces
pub mod Starts
