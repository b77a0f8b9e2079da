pub mod Beside
mod Changed
pub mod Copied
pub mod Ended
pub mod Indexed
pub mod Present
pub mod Puts
pub mod Refused
pub mod Removed
pub mod Sorted
