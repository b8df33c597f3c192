pub mod Partners
pub mod Batches
pub mod Deleted
pub mod Counts
pub mod Translated
