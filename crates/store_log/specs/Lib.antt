pub mod Cause
pub mod Head
pub mod Log
pub mod Refusal
pub mod Rest
pub mod Spare
