use Rattle.tree_array.proofs.Lemmas.{◌+◌, ◌-◌, take, refl, ◌∙◌, arith, drop_all, split_at, count_seen, fields, place_seen}
use Rattle.tree_array.proofs.array.ArrayOf.last_slot.Goals as goal

pub returns : goal.returns
returns g c =
    let a = fields c.order_of-order.ensures.word c.order_of-order.ensures.count refl c.self.invariant c.self.view_is in
    let last = c.order_of-order.result.count - 1 in
    let s = place_seen a last _ c.last.ensures in
    (s.0, s.1, take last c.args.self.now.entries, split_at c.args.self.now.entries last s.0 s.2 ∙ rw (drop_all (last + 1) c.args.self.now.entries (omega (arith, count_seen a, c.if-order-eq0.false))) refl)
