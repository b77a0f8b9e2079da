pub mod Common
pub mod EndSearch
pub mod EndWalks
pub mod InTurn
pub mod LeastFree
pub mod Under
