pub mod Approximate
pub mod CleanUps
pub mod Found
pub mod Replanted
