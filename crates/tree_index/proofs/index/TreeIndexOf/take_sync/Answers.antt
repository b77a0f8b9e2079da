use Rattle.std.proofs.Common.{◌∙◌, true, sym}
use Rattle.tree_node.proofs.Common.{fits}
use Rattle.tree_remove.specs.Removes.{surely}
use Rattle.tree_root.specs.Trees.{pairs_of}
use Rattle.tree_index.proofs.Indexed.{keeps_spare, pairs_ascend}
use Rattle.tree_remove.proofs.EntryPlaces.{pair_alike}
use Rattle.tree_root.proofs.Taken.{stored_found}
use Rattle.tree_index.proofs.Ended.{without_alike}
use Rattle.tree_index.proofs.Removed.{without_unchanged}
use Rattle.tree_index.proofs.index.TreeIndexOf.take_sync.Goals as goal

pub entry_for-requires : goal.entry_for-requires
entry_for-requires g c = (search fits, c.self.invariant.1)

pub take_at-requires : goal.take_at-requires
take_at-requires g c = (search fits, (c.self.invariant.1, (c.self.invariant.2, (c.in_ok-place.ensures.0, c.in_ok-place.ensures.2))))

pub invariant_of-self : goal.invariant_of-self
invariant_of-self g c = (c.self.invariant.0, c.take_at.ensures.takes.whole, c.take_at.ensures.counted)

pub returns-clause-spare : goal.returns-clause-spare
returns-clause-spare g c =
    rw (← c.self.view_is) (keeps_spare g.K.Ord.cmp surely c.self.inside.tree _ c.take_at.result.0 true c.take_at.ensures.takes)

pub returns-in_err-place-clause-left : goal.returns-in_err-place-clause-left
returns-in_err-place-clause-left g c =
    rw (← c.self.view_is) (sym (without_unchanged g.met.K.Ord.total (pairs_of c.self.inside.tree) c.args.key.now (pairs_ascend g.met.K.Ord.total c.self.inside.tree c.self.invariant.1) c.in_err-place.ensures))

pub returns-clause-taken : goal.returns-clause-taken
returns-clause-taken g c =
    let entry = c.in_ok-place.ensures in
    let is = c.take_at.ensures.pair entry.0 entry.2 in
    rw (← c.self.view_is, is) (sym (sym (pair_alike g.met.K.Ord.total entry.0.0 c.args.key.now entry.1 (pairs_of c.self.inside.tree)) ∙ stored_found g.K.Ord.cmp c.self.inside.tree c.in_ok-place.place entry.0 entry.2))

pub returns-clause-left : goal.returns-clause-left
returns-clause-left g c =
    let entry = c.in_ok-place.ensures in
    let is = c.take_at.ensures.pair entry.0 entry.2 in
    rw (← c.self.view_is) (rw is at c.take_at.ensures.takes.pairs.3 ∙ without_alike g.met.K.Ord.total entry.0.0 c.args.key.now entry.1 (pairs_of c.self.inside.tree))
