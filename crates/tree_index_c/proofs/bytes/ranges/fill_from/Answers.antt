use Rattle.std.proofs.Common.{length, refl, ap, arith}
use Rattle.std.proofs.lemmas.Cmp.{nat_list_cmp_total}
use Rattle.tree_cursors.specs.Ranged.{way_of}
use Rattle.tree_index_c.specs.Entries.{entry_of}
use Rattle.tree_index_c.proofs.Joined.{joining_more, joining_none, stops_at_once, stops_full, stops_short}
use Rattle.tree_index_c.proofs.Walking.{walks_first, walks_on, walks_out, walks_to}
use Rattle.tree_index_c.proofs.bytes.ranges.fill_from.Goals as goal

pub loop-at-init : goal.loop-at-init
loop-at-init c = (walks_first nat_list_cmp_total (way_of c.args.backwards) entry_of c.args.index.now.pairs c.args.bounds.0 c.args.bounds.1 c.args.entries.now _ _ c.range-cursor.result c.range-cursor.ensures c.as_ref.ensures c.as_ref-2.ensures, joining_none _ c.args.keys.now, refl, omega arith)

-- the cursor has no more
pub returns-in_default : goal.returns-in_default
returns-in_default c =
    let was = c.loop-at.invariant in
    stops_full _ _ _ _ _ _ _ was.1 c.loop-at.at refl (walks_out nat_list_cmp_total _ _ _ _ _ _ _ _ was.0 c.in_default.ensures)

-- the first key has no room
pub returns-then-at-eq0 : goal.returns-then-at-eq0
returns-then-at-eq0 c =
    let was = c.loop-at.invariant in
    stops_at_once _ _ _ _ _ _ _ was.1 _ _ (walks_to nat_list_cmp_total _ _ _ _ _ _ _ _ was.0 _ c.in-Some.ensures) c.loop-at.auto.keys _ c.as_slice-bytes.ensures _ c.if-at-eq0.true c.if-not-write_bytes.ensures.0 c.if-not-write_bytes.ensures.1

-- a later one has none
pub returns-then-not-write_bytes : goal.returns-then-not-write_bytes
returns-then-not-write_bytes c =
    let was = c.loop-at.invariant in
    stops_short _ _ _ _ _ _ _ was.1 _ _ (walks_to nat_list_cmp_total _ _ _ _ _ _ _ _ was.0 _ c.in-Some.ensures) c.loop-at.auto.keys _ c.as_slice-bytes.ensures _ (omega (arith, c.if-at-eq0.false)) c.if-not-write_bytes.ensures.0 c.if-not-write_bytes.ensures.1

-- the key and its entry are written
pub loop-at-preserved : goal.loop-at-preserved
loop-at-preserved c =
    let was = c.loop-at.invariant in (
      walks_on nat_list_cmp_total _ _ _ _ _ _ _ _ was.0 _ c.in-Some.ensures (omega (arith, c.loop-at-test.true, c.loop-at.auto.entries)) _ (ap (λ bytes. record { length = length bytes; value = c.in-Some.value.now }) c.as_slice-bytes.ensures),
      joining_more _ _ _ _ _ _ _ was.1 _ _ (walks_to nat_list_cmp_total _ _ _ _ _ _ _ _ was.0 _ c.in-Some.ensures) c.loop-at.auto.keys _ c.as_slice-bytes.ensures _ c.if-not-write_bytes.ensures.0 c.if-not-write_bytes.ensures.1,
      refl,
      omega (arith, c.loop-at-test.true),
    )
