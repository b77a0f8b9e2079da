pub mod DividesLeaf
pub mod DividesNode
pub mod Lasts
pub mod Packed
pub mod Splits
