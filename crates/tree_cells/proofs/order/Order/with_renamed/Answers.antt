use Rattle.std.proofs.Common.{◌+◌, ◌*◌, ◌/◌, ◌^◌, ◌<◌, [], ◌∷◌, drop, refl, ◌∙◌, ap, inl, arith, length-drop}
use Rattle.tree_cells.proofs.OrderCommon.{All-drop, names, IsSmall, edited_order, one_small, pushed, joins, length-names, names_small, rest_behind}
use Rattle.tree_cells.proofs.order.Order.with_renamed.Goals as goal

pub returns-then-place-self : goal.returns-then-place-self
returns-then-place-self g c =
    let word = c.extended.ensures _ (names_small _ c.args.place) (length-names _ c.args.place) c.first.ensures in
    pushed c.args.self.whole (omega (arith, c.requires.place)) (omega (arith, c.if-place-self.true)) (omega (arith, c.requires.place, c.args.self.whole.few)) c.requires.slot (omega (arith, c.requires.place, c.if-place-self.true)) word

pub returns : goal.returns
returns g c =
    let p = c.args.place in
    let early : p + 1 < c.args.self.count = omega (arith, c.requires.place, c.if-place-self.false) in
    let few = c.args.self.whole.few in
    let places = names c.args.self.word g.row.LEN in
    let small = names_small c.args.self.word g.row.LEN in
    let whole = length-names c.args.self.word g.row.LEN in
    let one = one_small c.args.slot c.requires.slot in
    let behind = ap (λ w. w / 2 ^ (4 * p) / 2 ^ 4) c.first-places.ensures ∙ rest_behind places small p (omega (arith, whole, early, few)) in
    let rest = joins (c.args.slot ∷ []) (drop (p + 1) places) 1 c.args.slot _ one (All-drop IsSmall (p + 1) places small) refl (omega (arith, length-drop (p + 1) places, whole, c.args.self.whole.small)) (omega arith) behind in
    edited_order c.args.self.whole (omega (arith, early)) g.row.LEN g.row.LEN p (p + 1) (c.args.slot ∷ []) few (omega arith) (omega arith) early (omega arith) (omega arith) (omega arith) one (inl refl) c.first-places.ensures c.first-2.ensures rest c.extended-2.ensures
