use Rattle.std.proofs.Common.{rules}
use Rattle.tree_leaf.proofs.Steps.{all_slots, slot_reachable, first_read, none_first}
use Rattle.tree_leaf.proofs.iter.LinkedIter+LeafOf+K+V+LEN+D.first_key.Goals as goal

pub returns-in_err-first : goal.returns-in_err-first
returns-in_err-first g c =
    let all = all_slots _ _ _ _ c.self.invariant.0 c.new.result _ c.new.ensures.slots (rw c.array.ensures at c.new.ensures.over) in
    rw (c.from_residual.ensures, ← c.self.view_is) (none_first _ _ _ _ all.0 all.1 _ _ (λ entry. entry.0) c.in_err-first.ensures.steps.1)

pub entry-requires : goal.entry-requires
entry-requires g c =
    let all = all_slots _ _ _ _ c.self.invariant.0 c.new.result _ c.new.ensures.slots (rw c.array.ensures at c.new.ensures.over) in
    (search rules, slot_reachable _ _ _ _ all.0 _ _ c.in_ok-first.ensures.steps.1.1)

pub returns : goal.returns
returns g c =
    let all = all_slots _ _ _ _ c.self.invariant.0 c.new.result _ c.new.ensures.slots (rw c.array.ensures at c.new.ensures.over) in
    rw (← c.self.view_is) (first_read _ _ _ _ all.0 all.1 _ _ _ _ c.in_ok-first.ensures.steps.1 c.entry.ensures)
