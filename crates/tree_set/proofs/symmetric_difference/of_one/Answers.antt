use Rattle.tree_node.proofs.Common.{fits}
use Rattle.std.proofs.Common.{sym, ◌∙◌}
use Rattle.tree_set.proofs.Apart.{apart_equal, apart_first, apart_greater, apart_less, apart_second, others_ascend}
use Rattle.tree_set.proofs.Merged.{equal_ascends}
use Rattle.tree_set.proofs.symmetric_difference.of_one.Goals as goal

pub loop-x-preserved : goal.loop-x-preserved
loop-x-preserved g c = rw (c.advance-in-Equal.ensures, c.advance-in-Equal-2.ensures) (record {
  ascending = equal_ascends g.met.K.Ord.total _ _ _ _ _ _ c.in-Some.ensures c.in-Some-peek.ensures c.loop-x.invariant.ascending (sym c.in-Equal.ensures);
  same = apart_equal g.met.K.Ord.total _ _ _ _ _ _ c.in-Some.ensures c.in-Some-peek.ensures c.loop-x.invariant.ascending (sym c.in-Equal.ensures) ∙ c.loop-x.invariant.same;
})

pub returns-in_default-clause-ascending : goal.returns-in_default-clause-ascending
returns-in_default-clause-ascending g c = rw c.advance.ensures (others_ascend g.K.Ord.cmp c.loop-x.first c.loop-x.second c.loop-x.invariant.ascending)

pub returns-in_default-clause-taken : goal.returns-in_default-clause-taken
returns-in_default-clause-taken g c = rw (← c.loop-x.invariant.same, c.advance.ensures) (apart_second g.K.Ord.cmp c.loop-x.first c.loop-x.second c.peek-y.result c.in_default.ensures c.peek-y.ensures)

pub returns-in_default-peek-clause-taken : goal.returns-in_default-peek-clause-taken
returns-in_default-peek-clause-taken g c = rw c.advance-in_default-peek.ensures (sym c.loop-x.invariant.same ∙ apart_first g.K.Ord.cmp c.loop-x.first c.loop-x.second _ c.in-Some.x.now c.in-Some.ensures c.in_default-peek.ensures)

pub returns-in-Less-clause-taken : goal.returns-in-Less-clause-taken
returns-in-Less-clause-taken g c = rw c.advance-in-Less.ensures (sym c.loop-x.invariant.same ∙ apart_less g.met.K.Ord.total _ _ _ _ _ _ c.in-Some.ensures c.in-Some-peek.ensures c.loop-x.invariant.ascending (sym c.in-Less.ensures))

pub returns-in-Greater-clause-taken : goal.returns-in-Greater-clause-taken
returns-in-Greater-clause-taken g c = rw c.advance-in-Greater.ensures (sym c.loop-x.invariant.same ∙ apart_greater g.met.K.Ord.total _ _ _ _ _ _ c.in-Some.ensures c.in-Some-peek.ensures c.loop-x.invariant.ascending (sym c.in-Greater.ensures))

pub peek-requires : goal.peek-requires
peek-requires g c = search fits

pub peek-y-requires : goal.peek-y-requires
peek-y-requires g c = search fits

pub advance-requires : goal.advance-requires
advance-requires g c = search fits

pub peek-requires-in-loop-x : goal.peek-requires-in-loop-x
peek-requires-in-loop-x g c = search fits

pub advance-requires-in_default-peek : goal.advance-requires-in_default-peek
advance-requires-in_default-peek g c = search fits

pub advance-requires-in-Less : goal.advance-requires-in-Less
advance-requires-in-Less g c = search fits

pub advance-requires-in-Equal : goal.advance-requires-in-Equal
advance-requires-in-Equal g c = search fits

pub advance-requires-in-Equal-2 : goal.advance-requires-in-Equal-2
advance-requires-in-Equal-2 g c = search fits

pub advance-requires-in-Greater : goal.advance-requires-in-Greater
advance-requires-in-Greater g c = search fits
