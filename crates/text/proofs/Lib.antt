pub mod Digits
pub mod Bytes
pub mod Decimals
pub mod Lines
pub mod Writing
pub mod Decoding
