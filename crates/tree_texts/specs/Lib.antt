pub mod Head
pub mod Prefix
pub mod TextPrefix
