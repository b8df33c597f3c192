pub mod Lanes
pub mod Marks
pub mod Seen
pub mod Ascii
pub mod substring
pub mod bytesets
pub mod lineends
