pub mod Storm
pub mod Tasks
pub mod Tool
