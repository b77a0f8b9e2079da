pub mod Appended
pub mod Cutting
pub mod Numbers
pub mod Packs
mod Runs
pub mod Storing
pub mod Taken
pub mod Valued
