pub mod Lasts
pub mod Rooms
pub mod Runs
pub mod Trees
