pub mod Beside
pub mod Ranged
pub mod Seek
pub mod View
