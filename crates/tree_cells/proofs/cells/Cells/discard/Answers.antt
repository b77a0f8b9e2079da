use Rattle.tree_cells.proofs.Lemmas.{steps, has_none, rows_seen}
use Rattle.tree_cells.proofs.cells.Cells.discard.Goals as goal

pub discard-requires : goal.discard-requires
discard-requires g c = (search steps, λ p. (has_none (rows_seen c.in-Some.is c.self.view_is c.self.invariant) p (c.requires p)).0)

pub discard-requires-in-Some : goal.discard-requires-in-Some
discard-requires-in-Some g c = (search steps, λ p. (has_none (rows_seen c.in-Some.is c.self.view_is c.self.invariant) p (c.requires p)).1)
