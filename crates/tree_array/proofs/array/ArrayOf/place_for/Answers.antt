use Rattle.tree_array.proofs.Lemmas.{arith, refl, fields, count_seen, entries_seen, kept, len_small, length-held, length-names, named_at, parts_before}
use Rattle.tree_array.proofs.Places.{parts_absent, parts_present}
use Rattle.tree_array.proofs.array.ArrayOf.place_for.Goals as goal

pub returns-in-At : goal.returns-in-At
returns-in-At g c =
    let a = fields c.order_of-order.ensures.word c.order_of-order.ensures.count refl c.self.invariant c.self.view_is in
    let sound = kept a g.met.K.Ord.total in
    let there = (named_at c.order_of-order.result.word c.order_of-order.result.count c.in-At.place c.in-At.slot c.in-At.ensures.1).0 in
    record {
      parts = rw (entries_seen a) (parts_present g.met.K.Ord.total a.it.table.in_order.ascend c.in-At.ensures.0);
      few = omega (arith, count_seen a, there, sound.entries_few, sound.few, len_small _ sound.is_len);
    }

pub returns-in-Before : goal.returns-in-Before
returns-in-Before g c =
    let a = fields c.order_of-order.ensures.word c.order_of-order.ensures.count refl c.self.invariant c.self.view_is in
    let sound = kept a g.met.K.Ord.total in
    let names = length-names c.order_of-order.result.word c.order_of-order.result.count in
    let parts = parts_before _ c.args.key.now _ _ _ _ (omega (arith, length-held a.it.table.in_order, names)) names c.in-Before.ensures in
    rw c.min.ensures (record {
      parts = rw (entries_seen a) (parts_absent g.met.K.Ord.total (omega (arith, length-held a.it.table.in_order, names)) parts);
      few = omega (arith, count_seen a, sound.entries_few, sound.few, len_small _ sound.is_len);
    })
