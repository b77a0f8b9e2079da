use Rattle.std.proofs.Common.{◌≡◌, ◌++◌}
use Rattle.tree_store.specs.Changes.{changed_by}
use Rattle.store_restart.proofs.batch.change_all.Given as goal

-- the changes so far were made
abbrev pub invariant-loop-one : goal.invariant-loop-one
invariant-loop-one g l = record {
  given : l.yielded ++ l.one-iterator.rest.items ≡ l.fn.changes.items;
  made : l.store.pairs ≡ changed_by g.K.Ord.cmp l.yielded l.fn.store.pairs;
  saved : l.store.saved ≡ l.fn.store.saved;
}
