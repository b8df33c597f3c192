pub mod Parts
pub mod Standing
pub mod Meant
pub mod Cutting
