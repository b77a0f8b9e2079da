use Rattle.tree_cells.proofs.OrderCommon.{◌≡◌, ℕ, ◌+◌, ◌<◌, length, slice_index_or, named, ordinal_in}
use Rattle.tree_cells.proofs.order.Order.ordinals.Given as goal

abbrev pub invariant-loop-place : goal.invariant-loop-place
invariant-loop-place g l = record {
  rest : (i : ℕ) → named l.rest i ≡ named l.fn.self.word (l.place + i);
  whole : length l.ordinals ≡ 15;
  ordinals : (p : ℕ) → p < 15 → slice_index_or l.ordinals p 0 ≡ ordinal_in (named l.fn.self.word) l.place p;
}
