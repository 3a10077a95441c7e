pub mod Onto
pub mod Wrote
pub mod Ranges
