pub mod ReadZero
pub mod Reading
pub mod Emitted
