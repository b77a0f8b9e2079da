pub mod Counted
pub mod Recorded
pub mod Replies
pub mod Workers
