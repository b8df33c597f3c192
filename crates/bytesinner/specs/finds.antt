pub mod Asked
pub mod Places
pub mod Counts
