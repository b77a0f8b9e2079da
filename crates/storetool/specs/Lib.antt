pub mod Answers
pub mod Durable
pub mod Failures
pub mod Loads
pub mod Printing
pub mod Session
pub mod Tasks
