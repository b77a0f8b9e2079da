use Rattle.std.proofs.Common.{[], ◌∷◌, append_assoc, append-nil}
use Rattle.tree_leaf.proofs.Rests.{chain_on, count_falls, left_then, none_then}
use Rattle.tree_leaf.proofs.laws.entries_left.Goals as goal

pub loop-entry-init : goal.loop-entry-init
loop-entry-init g c = rw c.new-entries.ensures.items (c.requires, λ rest left. left)

pub loop-entry-preserved : goal.loop-entry-preserved
loop-entry-preserved g c = (
  chain_on _ _ _ _ c.in-Some.ensures c.loop-entry.invariant.0,
  λ rest left. rw (c.in_ok-push.ensures.items, append_assoc)
      (c.loop-entry.invariant.1 (c.in-Some.entry ∷ rest) (left_then _ _ _ _ rest c.in-Some.ensures left)),
)

pub loop-entry-smaller : goal.loop-entry-smaller
loop-entry-smaller g c = count_falls g.D.Direction.way _ _ _ _ _ c.loop-entry.invariant.0.2 c.in-Some.ensures

pub returns : goal.returns
returns g c = rw append-nil at (c.loop-entry.invariant.1 [] (none_then _ _ _ _ c.in_default.is c.next_or_jump.ensures))
