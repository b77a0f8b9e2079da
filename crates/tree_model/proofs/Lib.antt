pub mod Ascending
pub mod Common
pub mod Edits
pub mod Histories
pub mod Lengths
pub mod Lists
pub mod LookUps
pub mod Order
