pub mod Closing
pub mod Emitted
