pub mod Take
pub mod Parts
