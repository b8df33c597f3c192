pub mod Tables
pub mod Maketrans
pub mod Translations
pub mod Entries
