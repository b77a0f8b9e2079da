pub mod Lines
pub mod Pairs
pub mod Progress
pub mod Runs
pub mod Spelling
pub mod Words
pub mod Writing
