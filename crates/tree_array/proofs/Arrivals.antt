-- What the crates above use of the lemmas on arrivals.
pub use Rattle.tree_cells.proofs.Picks.{reachable_few}
