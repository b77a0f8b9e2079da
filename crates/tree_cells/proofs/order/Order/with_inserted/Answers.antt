use Rattle.std.proofs.Common.{◌≡◌, ◌-◌, ◌*◌, ◌/◌, ◌^◌, ◌<◌, [], ◌∷◌, drop, refl, ◌∙◌, ap, inl, arith, length-drop}
use Rattle.tree_cells.proofs.OrderCommon.{All-drop, names, IsSmall, edited_order, one_small, pushed, joins, length-names, names_small, packed_drop}
use Rattle.tree_cells.proofs.order.Order.with_inserted.Goals as goal

pub returns-then-place-self : goal.returns-then-place-self
returns-then-place-self g c =
    let p = c.args.place in
    let early : p < c.args.self.count = c.if-place-self.true in
    let places = names c.args.self.word (g.row.LEN - 1) in
    let small = names_small c.args.self.word (g.row.LEN - 1) in
    let whole = length-names c.args.self.word (g.row.LEN - 1) in
    let one = one_small c.args.slot c.requires.slot in
    let behind = ap (λ w. w / 2 ^ (4 * p)) c.first-places.ensures ∙ packed_drop places p small (omega (arith, whole, early, c.requires.room)) in
    let rest = joins (c.args.slot ∷ []) (drop p places) 1 c.args.slot _ one (All-drop IsSmall p places small) refl (omega (arith, length-drop p places, whole, c.args.self.whole.small)) (omega arith) behind in
    edited_order c.args.self.whole (omega (arith, early)) (g.row.LEN - 1) g.row.LEN p p (c.args.slot ∷ []) (omega (arith, c.requires.room)) (omega arith) (omega arith) early (omega arith) (omega (arith, c.requires.room)) (omega arith) one (inl refl) c.first-places.ensures c.first.ensures rest c.extended.ensures

pub returns-else-place-self : goal.returns-else-place-self
returns-else-place-self g c =
    let count = c.args.self.count in
    let behind : c.args.place ≡ count = omega (arith, c.requires.place, c.if-place-self.false) in
    let word = c.extended-else-place-self.ensures _ (names_small _ count) (length-names _ count) c.first-else-place-self.ensures in
    rw behind (pushed c.args.self.whole (omega arith) (omega arith) c.requires.room c.requires.slot refl word)
