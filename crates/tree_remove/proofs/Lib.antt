mod Common
pub mod ChildDrops
pub mod EmptiedLeaves
pub mod EntryPlaces
pub mod LeafRemovals
pub mod LoweredTrees
pub mod Lowerings
pub mod NodeRemovals
pub mod Ways
