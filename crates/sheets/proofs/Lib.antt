pub mod Apart
pub mod Counting
pub mod Plain
pub mod ReadBack
pub mod Reading
pub mod Surveyed
pub mod Walks
