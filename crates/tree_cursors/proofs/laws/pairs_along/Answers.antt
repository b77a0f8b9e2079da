use Rattle.tree_cursors.proofs.RangesCommon.{◌∙◌, refl, map-append, way_of}
use Rattle.tree_cursors.proofs.Moving.{comes_nearer}
use Rattle.tree_cursors.proofs.Yields.{fresh_begun, rest_fresh, walked_all, walked_on}
use Rattle.tree_cursors.proofs.laws.pairs_along.Goals as goal

pub loop-pair-init : goal.loop-pair-init
loop-pair-init g c = rw c.new-pairs.ensures.items (record {
  same = refl;
  left =
      λ ascending. (fresh_begun g.K.Ord.cmp _ c.requires (way_of c.args.backward), refl);
})

pub loop-pair-preserved : goal.loop-pair-preserved
loop-pair-preserved g c = rw (c.in_ok-push.ensures.items, map-append) (walked_on g.met.K.Ord.total (way_of c.args.backward) _ _ _ _ c.loop-pair.invariant c.in-Some.pair c.in-Some.ensures)

pub loop-pair-smaller : goal.loop-pair-smaller
loop-pair-smaller g c = comes_nearer g.K.Ord.cmp (way_of c.args.backward) _ _ c.in-Some.pair c.in-Some.ensures

pub returns : goal.returns
returns g c = walked_all g.met.K.Ord.total (way_of c.args.backward) _ _ _ _ c.loop-pair.invariant c.in_default.ensures ∙ rest_fresh g.K.Ord.cmp _ c.requires (way_of c.args.backward)
