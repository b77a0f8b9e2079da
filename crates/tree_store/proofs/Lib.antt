pub mod Alike
pub mod Listed
pub mod Noted
pub mod Replayed
pub mod Saved
pub mod Settled
