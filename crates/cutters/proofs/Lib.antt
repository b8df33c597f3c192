pub mod Steps
pub mod Same
pub mod Yielding
pub mod Turns
pub mod Pouring
pub mod Telling
pub mod Tallying
