pub mod Back
pub mod Yields
pub mod Separated
