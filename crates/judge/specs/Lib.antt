pub mod Number
pub mod Stops
pub mod Act
pub mod Seen
pub mod Parts
