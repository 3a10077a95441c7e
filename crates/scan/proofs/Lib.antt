pub mod Marks
pub mod Back
pub mod Seen
