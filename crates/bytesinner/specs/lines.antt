pub mod Lines
pub mod Step
pub mod Reader
pub mod Few
pub mod Yields
