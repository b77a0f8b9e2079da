use Rattle.tree_array.proofs.Lemmas.{arith, ◌≡◌, ◌+◌, length, refl, sym, fields, entries_seen, count_seen, length-held, length-names, named_at, parts_before}
use Rattle.std.proofs.Common.{min}
use Rattle.tree_cells.proofs.Sides.{above_is, sides_key, sides_parts}
use Rattle.tree_array.proofs.array.walk.ArrayRevIter.above.Goals as goal

pub returns-in-At-clause-passed : goal.returns-in-At-clause-passed
returns-in-At-clause-passed g c =
    let a = fields c.order_of.ensures.word c.order_of.ensures.count refl c.array.invariant c.array.view_is in
    let few : min (c.in-At.place + 1) (length c.args.array.now.entries) ≡ c.in-At.place + 1 = omega (arith, count_seen a, (named_at c.order_of.result.word c.order_of.result.count c.in-At.place c.in-At.slot c.in-At.ensures.1).0) in
    rw (c.over.ensures.left, few, entries_seen a) (sym (above_is g.met.K.Ord.total (sides_key g.met.K.Ord.total a.it.table.in_order.ascend c.in-At.ensures.0)))

pub returns-in-Before-clause-passed : goal.returns-in-Before-clause-passed
returns-in-Before-clause-passed g c =
    let a = fields c.order_of.ensures.word c.order_of.ensures.count refl c.array.invariant c.array.view_is in
    let names = length-names c.order_of.result.word c.order_of.result.count in
    let parts = parts_before _ c.args.key.now _ _ _ _ (omega (arith, length-held a.it.table.in_order, names)) names c.in-Before.ensures in
    rw (c.over-in-Before.ensures.left, count_seen a, entries_seen a) (sym (above_is g.met.K.Ord.total (sides_parts g.met.K.Ord.total parts)))
