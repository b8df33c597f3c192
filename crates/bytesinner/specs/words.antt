pub mod Words
pub mod Few
pub mod Runs
pub mod Yields
pub mod Starts
