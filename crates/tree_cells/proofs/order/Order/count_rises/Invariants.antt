use Rattle.tree_cells.proofs.OrderCommon.{◌≡◌, ◌+◌, ◌≤◌, drop, named, ordinal_in, picked, rises_from, rises_in}
use Rattle.tree_cells.proofs.order.Order.count_rises.Given as goal

abbrev pub invariant-loop-slot : goal.invariant-loop-slot
invariant-loop-slot g l = record {
  rises : l.rises + rises_from l.previous (drop l.slot (picked (ordinal_in (named l.fn.self.word) l.fn.self.count) l.made)) ≡ rises_in (ordinal_in (named l.fn.self.word) l.fn.self.count) l.made;
  few : l.rises ≤ l.slot;
}
