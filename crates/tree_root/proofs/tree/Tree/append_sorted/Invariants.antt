use Rattle.std.proofs.Common.{◌≡◌, ◌++◌, []}
use Rattle.tree_root.specs.Runs.{Gathers}
use Rattle.tree_root.proofs.tree.Tree.append_sorted.Given as goal

-- the tree and the run have the pairs that came so far
abbrev pub invariant-loop-key : goal.invariant-loop-key
invariant-loop-key g l = record {
  given : l.yielded ++ l.key-iterator.rest.items ≡ l.fn.pairs.items;
  gathers : Gathers g.K.Ord.cmp l.fn.self l.self [] l.run l.yielded;
}
