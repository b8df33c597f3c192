pub mod Occurrences
pub mod Substrings
