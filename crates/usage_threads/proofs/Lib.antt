pub mod Growth
pub mod Inserted
pub mod Shown
