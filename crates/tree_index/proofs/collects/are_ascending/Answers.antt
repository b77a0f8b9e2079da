use Rattle.tree_node.proofs.Common.{fits}
use Rattle.std.proofs.Common.{refl, sym, ◌∙◌}
use Rattle.tree_index.proofs.Sorted.{few_ascend, one_more_ascends}
use Rattle.tree_index.proofs.collects.are_ascending.Goals as goal

pub loop-rest-preserved : goal.loop-rest-preserved
loop-rest-preserved g c =
    let turn = one_more_ascends g.met.K.Ord.total c.loop-rest.rest.now _ _ c.pair-item.result c.next-item.result c.in-len2-up.len_at_least c.pair-item.is c.next-item.is (rw c.cmp.ensures at (sym c.is_ge.ensures ∙ c.if-is_ge.false)) in
    record { whole = λ ascending. c.loop-rest.invariant.whole (turn.0 ascending); rest = λ ascending. turn.1 (c.loop-rest.invariant.rest ascending) }

pub returns : goal.returns
returns g c = ((λ _. c.loop-rest.invariant.whole (few_ascend g.met.K.Ord.total c.loop-rest.rest.now c.in_default.len_below)), (λ _. refl))

pub is_ge-requires : goal.is_ge-requires
is_ge-requires g c = search fits
