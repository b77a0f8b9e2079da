use Rattle.tree_cells.proofs.OrderCommon.{◌≢◌, ℕ, ◌<◌, named}
use Rattle.tree_cells.proofs.order.Order.place_of.Given as goal

abbrev pub invariant-loop-place : goal.invariant-loop-place
invariant-loop-place g l = (i : ℕ) → i < l.place → named l.fn.self.word i ≢ l.slot
