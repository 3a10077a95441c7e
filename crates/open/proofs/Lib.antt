pub mod Opening
pub mod Emitted
