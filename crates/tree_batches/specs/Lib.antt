pub mod Batches
pub mod Nearest
pub mod Writes
