pub mod Collects
pub mod Merges
pub mod Ranged
pub mod Sets
