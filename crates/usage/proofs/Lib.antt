pub mod Prices
pub mod Registered
pub mod Sums
pub mod Stamps
