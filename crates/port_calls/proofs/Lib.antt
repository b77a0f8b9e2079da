pub mod FoundLevels
mod Replanted
mod Within
