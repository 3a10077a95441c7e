pub mod Hex
pub mod Decimal
pub mod Lines
pub mod Letters
pub mod Writing
