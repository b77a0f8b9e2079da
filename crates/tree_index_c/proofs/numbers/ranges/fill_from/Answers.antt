use Rattle.std.proofs.Common.{refl, arith}
use Rattle.tree_model.proofs.Common.{nat_cmp_total}
use Rattle.tree_cursors.specs.Ranged.{way_of}
use Rattle.tree_index_c.specs.Pairs.{as_pair}
use Rattle.tree_index_c.proofs.Walking.{walks_first, walks_full, walks_on, walks_out}
use Rattle.tree_index_c.proofs.numbers.ranges.fill_from.Goals as goal

pub loop-at-init : goal.loop-at-init
loop-at-init c = (walks_first nat_cmp_total (way_of c.args.backwards) as_pair c.args.index.now.pairs c.args.bounds.0 c.args.bounds.1 c.args.places.now _ _ c.range-cursor.result c.range-cursor.ensures c.as_ref.ensures c.as_ref-2.ensures, refl, omega arith)

-- the cursor has no more
pub returns-in_default : goal.returns-in_default
returns-in_default c = walks_out nat_cmp_total _ _ _ _ _ _ _ _ c.loop-at.invariant.0 c.in_default.ensures

-- it gives a pair to this place
pub loop-at-preserved : goal.loop-at-preserved
loop-at-preserved c =
    let was = c.loop-at.invariant.0 in
    (walks_on nat_cmp_total _ _ _ _ _ _ _ _ was _ c.in-Some.ensures (omega (arith, c.loop-at-test.true, c.loop-at.auto.places)) _ refl, refl, omega (arith, c.loop-at-test.true))

pub returns : goal.returns
returns c = walks_full nat_cmp_total _ _ _ _ c.loop-at.at c.loop-at.places c.loop-at.cursor c.loop-at.invariant.0 (omega (arith, c.loop-at-test.false, c.loop-at.auto.places))
