use Rattle.tree_node.proofs.Common.{fits}
use Rattle.std.proofs.Common.{sym, ◌∙◌}
use Rattle.tree_set.proofs.Merged.{alone_equal, alone_greater, alone_less, equal_ascends, greater_ascends}
use Rattle.tree_set.proofs.difference.alone.Goals as goal

pub returns-in-Less-clause-taken : goal.returns-in-Less-clause-taken
returns-in-Less-clause-taken g c = rw c.advance-in-Less.ensures (sym c.loop-x.invariant.same ∙ alone_less g.met.K.Ord.total _ _ _ _ _ _ c.in_ok-x.ensures c.in-Some.ensures c.loop-x.invariant.ascending (sym c.in-Less.ensures))

pub loop-x-preserved-in-Equal : goal.loop-x-preserved-in-Equal
loop-x-preserved-in-Equal g c = rw (c.advance-in-Equal.ensures, c.advance-in-Equal-2.ensures) (record {
  ascending = equal_ascends g.met.K.Ord.total _ _ _ _ _ _ c.in_ok-x.ensures c.in-Some.ensures c.loop-x.invariant.ascending (sym c.in-Equal.ensures);
  same = alone_equal g.met.K.Ord.total _ _ _ _ _ _ c.in_ok-x.ensures c.in-Some.ensures c.loop-x.invariant.ascending (sym c.in-Equal.ensures) ∙ c.loop-x.invariant.same;
})

pub loop-x-preserved : goal.loop-x-preserved
loop-x-preserved g c = rw c.advance-in-Greater.ensures (record {
  ascending = greater_ascends g.met.K.Ord.total _ _ _ _ _ _ c.in_ok-x.ensures c.in-Some.ensures c.loop-x.invariant.ascending (sym c.in-Greater.ensures);
  same = alone_greater g.met.K.Ord.total _ _ _ _ _ _ c.in_ok-x.ensures c.in-Some.ensures c.loop-x.invariant.ascending (sym c.in-Greater.ensures) ∙ c.loop-x.invariant.same;
})

pub peek-requires : goal.peek-requires
peek-requires g c = search fits

pub peek-requires-in-loop-x : goal.peek-requires-in-loop-x
peek-requires-in-loop-x g c = search fits

pub advance-requires : goal.advance-requires
advance-requires g c = search fits

pub advance-requires-in-Less : goal.advance-requires-in-Less
advance-requires-in-Less g c = search fits

pub advance-requires-in-Equal : goal.advance-requires-in-Equal
advance-requires-in-Equal g c = search fits

pub advance-requires-in-Equal-2 : goal.advance-requires-in-Equal-2
advance-requires-in-Equal-2 g c = search fits

pub advance-requires-in-Greater : goal.advance-requires-in-Greater
advance-requires-in-Greater g c = search fits
