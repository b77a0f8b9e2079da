pub mod Arrivals
pub mod Common
pub mod Dealt
mod Kept
mod Lemmas
mod Moved
mod Places
mod Ranges
pub mod Runs
mod Seen
mod Stepped
mod Stored
