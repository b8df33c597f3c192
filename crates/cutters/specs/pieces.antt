pub mod Lefts
pub mod Loans
pub mod Skipped
pub mod Sources
pub mod Yields
