pub mod Words
pub mod Forms
pub mod Stated
pub mod Held
