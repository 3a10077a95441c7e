pub mod Seen
pub mod Numbers
pub mod Judging
pub mod Zero
