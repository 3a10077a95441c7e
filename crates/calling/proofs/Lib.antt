pub mod Looked
pub mod Told
