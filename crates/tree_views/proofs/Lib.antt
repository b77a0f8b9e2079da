pub mod Common
pub mod Taken
pub mod Walked
