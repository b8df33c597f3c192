pub mod Trays
pub mod Buffers
pub mod Labels
pub mod AnyTrays
pub mod Gathers
