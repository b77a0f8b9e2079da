pub mod CleanUps
pub mod Places
