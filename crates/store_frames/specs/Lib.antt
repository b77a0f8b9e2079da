pub mod Frame
pub mod Seal
