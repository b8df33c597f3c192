pub mod Places
pub mod Joining
pub mod Law
pub mod Checks
