pub mod Common
pub mod CutLoop
pub mod Ends
pub mod Frees
pub mod Nodes
pub mod OneChild
pub mod Outside
