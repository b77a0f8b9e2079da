pub mod Climbs
pub mod Rooms
pub mod Schedules
pub mod Served
pub mod Tallied
