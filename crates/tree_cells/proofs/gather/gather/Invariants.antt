use Rattle.tree_cells.proofs.Lemmas.{◌≡◌, ℕ, ◌+◌, zipped, HasInTurn, HasLeft, named, AreSeenAs}
use Rattle.tree_cells.proofs.gather.gather.Given as goal

abbrev pub invariant-loop-place : goal.invariant-loop-place
invariant-loop-place g l = record {
  rest : (i : ℕ) → named l.rest i ≡ named l.order (l.place + i);
  rows : AreSeenAs l.keys.slots l.vals.slots (zipped l.keys.slots l.vals.slots);
  to : AreSeenAs l.to_keys.slots l.to_vals.slots (zipped l.to_keys.slots l.to_vals.slots);
  turn : HasInTurn (zipped l.fn.keys.slots l.fn.vals.slots) (zipped l.to_keys.slots l.to_vals.slots) l.order l.from l.place;
  left : HasLeft (zipped l.fn.keys.slots l.fn.vals.slots) (zipped l.keys.slots l.vals.slots) l.order l.from l.place;
}
