use Rattle.tree_array.proofs.Lemmas.{refl, rules, arith, nat_tests, len_small, true_from_ne_false, length-held, spent, stands_some, entries_seen, fields, found_seen, is_stored, kept}
use Rattle.tree_array.proofs.Lemmas.{made_seen, none_seen, moved_fields, parts_before, room_from_not_full, length-names, named_at}
use Rattle.tree_array.proofs.array.ArrayOf.store_beyond.Goals as goal

-- ---- a place has the key
pub rename-order-requires : goal.rename-order-requires
rename-order-requires g c =
    let a = fields c.order_of-order.ensures.word c.order_of-order.ensures.count c.counts-arrivals.ensures.arrivals c.self.invariant c.self.view_is in
    (search rules, ((named_at c.order_of-order.result.word c.order_of-order.result.count c.in-At.place c.in-At.slot c.in-At.ensures.1).0, omega (arith, a.it.table.few_made, len_small g.row.LEN a.it.table.is_len)))

pub take-requires : goal.take-requires
take-requires g c = (search rules, stands_some (fields c.order_of-order.ensures.word c.order_of-order.ensures.count refl c.self.invariant c.self.view_is).it.table.in_order _ _ c.in-At.ensures.1)

pub push-requires : goal.push-requires
push-requires g c =
    let a = fields c.order_of-order.ensures.word c.order_of-order.ensures.count c.counts-arrivals.ensures.arrivals c.self.invariant c.self.view_is in
    let room = room_from_not_full g.row.LEN c.args.self.now c.if-is_full.ensures.1 in
    let place = c.in-At.ensures in
    (search rules, rw (c.take.ensures.counts, c.take.ensures.spent, ← c.counts-arrivals.ensures.arrivals) (omega (arith, room.0, made_seen a), (len_small g.row.LEN a.it.table.is_len, (spent g.met.K.Ord.total a.it.table place.1 place.0).0.unmade _ (omega arith))))

pub invariant_of-self : goal.invariant_of-self
invariant_of-self g c =
    let a = fields c.order_of-order.ensures.word c.order_of-order.ensures.count c.counts-arrivals.ensures.arrivals c.self.invariant c.self.view_is in
    let room = room_from_not_full g.row.LEN c.args.self.now c.if-is_full.ensures.1 in
    let place = c.in-At.ensures in
    let renamed = c.rename-order.ensures in
    rw (c.push.ensures.pairs, c.push.ensures.entries, c.push.ensures.arrivals, c.take.ensures.counts, c.take.ensures.spent, ← c.counts-arrivals.ensures.arrivals) (moved_fields g.met.K.Ord.total a (omega (arith, room.0, made_seen a)) c.args.key c.args.val room.1 place.1 place.0 renamed.count renamed.names c.rename-order.result.whole).it

pub returns-else-is_full : goal.returns-else-is_full
returns-else-is_full g c =
    let a = fields c.order_of-order.ensures.word c.order_of-order.ensures.count c.counts-arrivals.ensures.arrivals c.self.invariant c.self.view_is in
    let o = g.met.K.Ord.total in
    let room = room_from_not_full g.row.LEN c.args.self.now c.if-is_full.ensures.1 in
    let place = c.in-At.ensures in
    let renamed = c.rename-order.ensures in
    let new_is = moved_fields o a (omega (arith, room.0, made_seen a)) c.args.key c.args.val room.1 place.1 place.0 renamed.count renamed.names c.rename-order.result.whole in (
      is_stored (kept a o) room (λ h. grind (arith, nat_tests, c.if-not-this.false)) (rw (c.push.ensures.pairs, c.push.ensures.entries, c.push.ensures.arrivals, c.take.ensures.counts, c.take.ensures.spent, ← c.counts-arrivals.ensures.arrivals) new_is.view),
      true_from_ne_false _ (λ h. grind (arith, nat_tests, c.if-not-this.false)),
      rw (found_seen a o place.0) refl,
    )

pub returns-then-not-this : goal.returns-then-not-this
returns-then-not-this g c =
    let a = fields c.order_of-order.ensures.word c.order_of-order.ensures.count refl c.self.invariant c.self.view_is in
    record {
      back = record { new_is = refl; same_key = refl; same_val = refl };
      only_insert = rw c.if-not-this.true refl;
      present = rw (found_seen a g.met.K.Ord.total c.in-At.ensures.0) refl;
    }

pub returns-then-is_full : goal.returns-then-is_full
returns-then-is_full g c = record {
  back = record { new_is = refl; same_key = refl; same_val = refl };
  full = c.if-is_full.ensures.0 refl;
  absent = λ h. grind (arith, nat_tests, c.if-not-this.false);
}

-- ---- no place has the key
pub returns-then-is_full-2 : goal.returns-then-is_full-2
returns-then-is_full-2 g c =
    let a = fields c.order_of-order.ensures.word c.order_of-order.ensures.count refl c.self.invariant c.self.view_is in
    record {
      back = record { new_is = refl; same_key = refl; same_val = refl };
      full = c.if-is_full-2.ensures.0 refl;
      absent = λ h. none_seen a g.met.K.Ord.total _ _ _ c.in-Before.ensures;
    }

pub let_in-requires : goal.let_in-requires
let_in-requires g c =
    let a = fields c.order_of-order.ensures.word c.order_of-order.ensures.count refl c.self.invariant c.self.view_is in
    let room = room_from_not_full g.row.LEN c.args.self.now c.if-is_full-2.ensures.1 in
    let names = length-names c.order_of-order.result.word c.order_of-order.result.count in
    (search rules, (omega (arith, room.0), (room.1, rw (c.min.ensures, c.counts-entries.ensures.entries, ← c.order_of-order.ensures.count, entries_seen a) (parts_before _ c.args.key _ _ _ _ (omega (arith, length-held a.it.table.in_order, names)) names c.in-Before.ensures))))

pub returns-else-is_full-2 : goal.returns-else-is_full-2
returns-else-is_full-2 g c =
    let a = fields c.order_of-order.ensures.word c.order_of-order.ensures.count refl c.self.invariant c.self.view_is in
    let room = room_from_not_full g.row.LEN c.args.self.now c.if-is_full-2.ensures.1 in
    let absent = none_seen a g.met.K.Ord.total _ _ _ c.in-Before.ensures in
    (is_stored (kept a g.met.K.Ord.total) room (λ h. absent) c.let_in.ensures, absent)
