pub mod Cuts
pub mod Runs
pub mod Splits
