pub mod Feed
pub mod Worked
