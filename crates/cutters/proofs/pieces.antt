pub mod Counted
pub mod Written
