pub mod Appends
pub mod Inserts
pub mod Roots
