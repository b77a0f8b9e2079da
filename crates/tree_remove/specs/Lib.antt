pub mod Lowering
pub mod Removes
pub mod Takes
