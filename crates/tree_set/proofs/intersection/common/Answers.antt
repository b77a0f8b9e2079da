use Rattle.tree_node.proofs.Common.{fits}
use Rattle.std.proofs.Common.{sym, ◌∙◌}
use Rattle.tree_set.proofs.Merged.{common_equal, common_greater, common_less, common_none, greater_ascends, less_ascends}
use Rattle.tree_set.proofs.intersection.common.Goals as goal

-- the second list has ended
pub returns-in_err-y-clause-taken : goal.returns-in_err-y-clause-taken
returns-in_err-y-clause-taken g c =
    let none = common_none g.K.Ord.cmp c.loop-x.first c.loop-x.second c.in_err-y.ensures in
    rw c.from_residual-in_err-y.ensures (sym c.loop-x.invariant.same ∙ none, none)

pub loop-x-preserved-in-Less : goal.loop-x-preserved-in-Less
loop-x-preserved-in-Less g c = rw c.advance.ensures (record {
  ascending = less_ascends g.met.K.Ord.total _ _ _ _ _ _ c.in_ok-x.ensures c.in_ok-y.ensures c.loop-x.invariant.ascending (sym c.in-Less.ensures);
  same = common_less g.met.K.Ord.total _ _ _ _ _ _ c.in_ok-x.ensures c.in_ok-y.ensures c.loop-x.invariant.ascending (sym c.in-Less.ensures) ∙ c.loop-x.invariant.same;
})

pub returns-in-Equal-clause-taken : goal.returns-in-Equal-clause-taken
returns-in-Equal-clause-taken g c = rw (c.advance-in-Equal.ensures, c.advance-in-Equal-2.ensures) (sym c.loop-x.invariant.same ∙ common_equal g.met.K.Ord.total _ _ _ _ _ _ c.in_ok-x.ensures c.in_ok-y.ensures c.loop-x.invariant.ascending (sym c.in-Equal.ensures))

pub loop-x-preserved : goal.loop-x-preserved
loop-x-preserved g c = rw c.advance-in-Greater.ensures (record {
  ascending = greater_ascends g.met.K.Ord.total _ _ _ _ _ _ c.in_ok-x.ensures c.in_ok-y.ensures c.loop-x.invariant.ascending (sym c.in-Greater.ensures);
  same = common_greater g.met.K.Ord.total _ _ _ _ _ _ c.in_ok-x.ensures c.in_ok-y.ensures c.loop-x.invariant.ascending (sym c.in-Greater.ensures) ∙ c.loop-x.invariant.same;
})

pub peek-requires : goal.peek-requires
peek-requires g c = search fits

pub peek-requires-in-loop-x : goal.peek-requires-in-loop-x
peek-requires-in-loop-x g c = search fits

pub advance-requires : goal.advance-requires
advance-requires g c = search fits

pub advance-requires-in-Equal : goal.advance-requires-in-Equal
advance-requires-in-Equal g c = search fits

pub advance-requires-in-Equal-2 : goal.advance-requires-in-Equal-2
advance-requires-in-Equal-2 g c = search fits

pub advance-requires-in-Greater : goal.advance-requires-in-Greater
advance-requires-in-Greater g c = search fits
