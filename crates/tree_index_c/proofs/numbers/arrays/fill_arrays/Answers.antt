use Rattle.std.proofs.Common.{refl, arith}
use Rattle.tree_model.proofs.Common.{nat_cmp_total}
use Rattle.tree_cursors.proofs.Yields.{takes_first}
use Rattle.tree_cursors.specs.Ranged.{way_of}
use Rattle.tree_index_c.specs.Pairs.{key_of, value_of}
use Rattle.tree_index_c.proofs.Filled.{both_all, both_full}
use Rattle.tree_index_c.proofs.Walking.{walks_first, walks_on}
use Rattle.tree_index_c.proofs.numbers.arrays.fill_arrays.Goals as goal

pub loop-at-init : goal.loop-at-init
loop-at-init c =
    let begins = walks_first nat_cmp_total (way_of c.args.backwards) in (
      begins key_of c.args.index.now.pairs c.args.bounds.0 c.args.bounds.1 c.args.keys.now _ _ c.range-cursor.result c.range-cursor.ensures c.as_ref.ensures c.as_ref-2.ensures,
      begins value_of c.args.index.now.pairs c.args.bounds.0 c.args.bounds.1 c.args.values.now _ _ c.range-cursor.result c.range-cursor.ensures c.as_ref.ensures c.as_ref-2.ensures,
      c.min-room.ensures,
      omega arith,
    )

-- the cursor has no more
pub returns-in_default : goal.returns-in_default
returns-in_default c =
    let was = c.loop-at.invariant in
    both_all _ _ _ _ _ _ _ was.0.filling was.1.filling (takes_first nat_cmp_total _ _ _ _ c.in_default.ensures was.0.begun).1.0

-- it gives a pair, whose key and value each have their place here
pub loop-at-preserved : goal.loop-at-preserved
loop-at-preserved c =
    let was = c.loop-at.invariant in (
      walks_on nat_cmp_total _ _ _ _ _ _ _ _ was.0 _ c.in-Some.ensures (omega (arith, c.loop-at-test.true, was.2, c.loop-at.auto.keys)) _ refl,
      walks_on nat_cmp_total _ _ _ _ _ _ _ _ was.1 _ c.in-Some.ensures (omega (arith, c.loop-at-test.true, was.2, c.loop-at.auto.values)) _ refl,
      was.2,
      omega (arith, c.loop-at-test.true),
    )

pub returns : goal.returns
returns c =
    let was = c.loop-at.invariant in
    both_full _ _ _ _ _ _ _ was.0.filling was.1.filling _ was.2 (omega (arith, c.loop-at-test.false, was.3))
