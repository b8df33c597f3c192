pub mod Gains
pub mod LabelWrites
pub mod Written
