pub mod Sending
pub mod Emitted
