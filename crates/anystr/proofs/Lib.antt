pub mod Begins
pub mod Boundaries
pub mod Mapped
pub mod Parts
pub mod Singles
pub mod Walking
