pub mod Limits
pub mod Refusals
pub mod Elements
pub mod OfBytes
pub mod Bytes
pub mod Indices
pub mod Places
pub mod Texts
