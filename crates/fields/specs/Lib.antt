pub mod Answer
pub mod Rooms
pub mod Reply
pub mod Show
pub mod Lending
