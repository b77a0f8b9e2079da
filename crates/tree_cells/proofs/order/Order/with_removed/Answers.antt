use Rattle.std.proofs.Common.{◌+◌, ◌-◌, ◌*◌, ◌/◌, ◌^◌, ◌<◌, [], ◌∙◌, ap, inr, arith}
use Rattle.tree_cells.proofs.OrderCommon.{All-nil, names, IsSmall, edited_order, ended, last_is, length-names, named_at, names_small, rest_behind}
use Rattle.tree_cells.proofs.order.Order.with_removed.Goals as goal

pub returns-then-place-last : goal.returns-then-place-last
returns-then-place-last g c =
    let last = c.args.self.count - 1 in
    let word = c.extended.ensures _ (names_small _ last) (length-names _ last) c.first.ensures in
    rw c.if-place-last.true (ended c.args.self.whole (omega (arith, c.requires.others)) (omega (arith, c.requires.others)) (rw c.slot_at.ensures at word))

pub extended-requires-2-clause-slot : goal.extended-requires-2-clause-slot
extended-requires-2-clause-slot g c = omega (arith, (named_at c.args.self.word c.args.self.count (c.args.self.count - 1) c.last.result c.last.ensures).1)

pub returns : goal.returns
returns g c =
    let p = c.args.place in
    let some : 0 < c.args.self.count = omega (arith, c.requires.place) in
    let early : p + 1 < c.args.self.count = omega (arith, c.requires.place, c.if-place-last.false) in
    let few = c.args.self.whole.few in
    let places = names c.args.self.word g.row.LEN in
    let rest = ap (λ w. w / 2 ^ (4 * p) / 2 ^ 4) c.first-places.ensures ∙ rest_behind places (names_small c.args.self.word g.row.LEN) p (omega (arith, length-names c.args.self.word g.row.LEN, early, few)) in
    edited_order c.args.self.whole some g.row.LEN (g.row.LEN - 1) p (p + 1) [] few (omega arith) (omega arith) early (omega arith) (omega (arith, early, few)) (omega (arith, early)) (All-nil IsSmall) (inr (last_is c.args.self.whole some _ c.last.ensures)) c.first-places.ensures c.first-2.ensures rest c.extended-2.ensures
