pub mod When
pub mod Plain
pub mod Whens
pub mod Lists
pub mod Bench
pub mod Grants
pub mod Worked
pub mod Apart
