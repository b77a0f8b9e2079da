pub mod Climbs
pub mod Inserts
pub mod Ledgers
pub mod Schedules
pub mod Served
pub mod Tallies
