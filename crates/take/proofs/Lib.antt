pub mod SynKeeps
pub mod Answered
pub mod Used
