use Rattle.tree_array.proofs.Lemmas.{refl, arith, slice_get_past, count_seen, fields, place_seen}
use Rattle.tree_array.proofs.array.ArrayOf.slot_at.Goals as goal

pub returns-then-place-order : goal.returns-then-place-order
returns-then-place-order g c = place_seen (fields c.order_of-order.ensures.word c.order_of-order.ensures.count refl c.self.invariant c.self.view_is) c.args.place _ c.slot_at.ensures

pub returns-else-place-order : goal.returns-else-place-order
returns-else-place-order g c =
    let a = fields c.order_of-order.ensures.word c.order_of-order.ensures.count refl c.self.invariant c.self.view_is in
    slice_get_past c.args.self.now.entries c.args.place (omega (arith, count_seen a, c.if-place-order.false))
