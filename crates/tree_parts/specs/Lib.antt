pub mod Children
pub mod Ends
