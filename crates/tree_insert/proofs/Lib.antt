mod AppendCommon
mod Lasts
mod Plantings
mod Raises
mod Restarts
mod Runs
mod Stored
pub mod Common
pub mod Crowded
pub mod Edges
pub mod Inserts
pub mod LeafNodes
pub mod RaisedTrees
pub mod Retries
pub mod Ways
