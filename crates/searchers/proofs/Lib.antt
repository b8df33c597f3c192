pub mod Compared
pub mod Found
pub mod Halves
