pub mod Growing
pub mod Keeping
pub mod Pending
