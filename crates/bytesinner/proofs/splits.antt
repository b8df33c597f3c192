pub mod Laws
pub mod Turned
