pub mod Frames
pub mod Batches
pub mod Spelled
pub mod Seals
pub mod Tested
