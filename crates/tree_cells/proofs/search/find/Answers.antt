use Rattle.tree_cells.proofs.Lemmas.{◌≡◌, ℕ, List, Option, Ordering, arith, rules, AreSlots, IsInOrder, names, IsOrder, end_placed, place_apart, place_equal, stands_some, len_small}
use Rattle.tree_cells.proofs.search.find.Goals as goal

pub key-requires : goal.key-requires
key-requires g c = (search rules, stands_some c.requires.in_order _ _ c.slot_at.ensures)

pub end-requires-then-window-ignored-3-clause-within : goal.end-requires-then-window-ignored-3-clause-within
end-requires-then-window-ignored-3-clause-within g c = omega (arith, (c.halve-window-2.ensures.window.equal (omega (arith, c.if-window-ignored-3.true))).0, len_small g.row.LEN c.requires.len)

-- ---- what is found
slots : {K V : Type 0} {cmp : K → K → Ordering} {cells : List (Option (K × V))} {len word count : ℕ} → IsInOrder cmp cells (names word count) → IsOrder len word count → (count ≡ 0 → ⊥) → AreSlots cmp len cells word count
slots in_order order some = record { in_order = in_order; order = order; some = omega arith }

pub returns-then-window-ignored-clause-place : goal.returns-then-window-ignored-clause-place
returns-then-window-ignored-clause-place g c =
    rw (c.end.ensures, ← c.begin-window.ensures.same_key) (end_placed g.met.K.Ord.total (slots c.requires.in_order c.args.order.whole c.if-order-eq0.false) _ c.begin-window.ensures.window (omega (arith, c.if-window-ignored.true)))

pub returns-then-window-ignored-2-clause-place : goal.returns-then-window-ignored-2-clause-place
returns-then-window-ignored-2-clause-place g c =
    rw (c.end-then-window-ignored-2.ensures, ← c.begin-window.ensures.same_key, ← c.halve-window.ensures.same_key) (end_placed g.met.K.Ord.total (slots c.requires.in_order c.args.order.whole c.if-order-eq0.false) _ c.halve-window.ensures.window (omega (arith, c.if-window-ignored-2.true)))

pub returns-then-window-ignored-3-clause-place : goal.returns-then-window-ignored-3-clause-place
returns-then-window-ignored-3-clause-place g c =
    rw (c.end-then-window-ignored-3.ensures, ← c.begin-window.ensures.same_key, ← c.halve-window.ensures.same_key, ← c.halve-window-2.ensures.same_key) (end_placed g.met.K.Ord.total (slots c.requires.in_order c.args.order.whole c.if-order-eq0.false) _ c.halve-window-2.ensures.window (omega (arith, c.if-window-ignored-3.true)))

pub returns-then-window-gt0-clause-place : goal.returns-then-window-gt0-clause-place
returns-then-window-gt0-clause-place g c =
    rw (c.slot_at-slot.ensures, ← c.begin-window.ensures.same_key, ← c.halve-window.ensures.same_key, ← c.halve-window-2.ensures.same_key, ← c.halve-window-3.ensures.same_key) (place_equal g.met.K.Ord.total (slots c.requires.in_order c.args.order.whole c.if-order-eq0.false) _ c.halve-window-3.ensures.window c.if-window-gt0.true)

pub returns-else-window-gt0-clause-place : goal.returns-else-window-gt0-clause-place
returns-else-window-gt0-clause-place g c =
    rw (c.slot_at-slot.ensures, ← c.begin-window.ensures.same_key, ← c.halve-window.ensures.same_key, ← c.halve-window-2.ensures.same_key, ← c.halve-window-3.ensures.same_key) (place_apart g.met.K.Ord.total (slots c.requires.in_order c.args.order.whole c.if-order-eq0.false) _ c.halve-window-3.ensures.window (omega (arith, c.if-window-gt0.false)))
