pub mod Spreading
pub mod Cutting
pub mod Turning
pub mod Law
pub mod Filling
