pub mod Replaces
pub mod Replacements
