mod Zips
pub mod Common
pub mod Entries
pub mod Found
pub mod Halving
pub mod InTurn
pub mod LeastFrom
pub mod Lemmas
pub mod Moves
pub mod OrderCommon
pub mod Picks
pub mod Ranks
pub mod Rows
pub mod Sides
pub mod Sizes
pub mod Tabled
pub mod Words
