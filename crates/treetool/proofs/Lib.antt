pub mod Storms
pub mod Tasks
