pub mod Bounds
mod Common
pub mod Drops
pub mod EmptyNodes
pub mod Retired
pub mod Siblings
