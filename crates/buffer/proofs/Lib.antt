pub mod Onto
pub mod Parts
pub mod Wrote
pub mod Ranges
