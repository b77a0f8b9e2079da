pub mod Ordered
pub mod Pairs
pub mod Turned
