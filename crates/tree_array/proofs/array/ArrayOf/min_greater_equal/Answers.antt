use Rattle.tree_array.proofs.Lemmas.{◌≡◌, ◌<◌, ◌≤◌, ℕ, List, Option, None, Some, refl, sym, ◌∙◌, arith, Ordering, IsTotalOrder, arrival, least_from, len_small, names, Arrivals, held}
use Rattle.tree_array.proofs.Lemmas.{slot_of, IsPlace, least_of, early, stands, arrival_seen, entries_seen, fields, AreFields}
use Rattle.tree_cells.specs.declared.search.Place.{Place}
use Rattle.tree_array.proofs.array.ArrayOf.min_greater_equal.Goals as goal

-- what the slot of a place says of the entries of an array
least_seen : {K V : Type 0} {cmp : K → K → Ordering} (o : IsTotalOrder cmp) {len : ℕ} {cells : List (Option (K × V))} {word count made : ℕ} {array : Arrivals K V} → AreFields cmp len cells word count made array → (key : K) (place : Place) → IsPlace cmp (held cells (names word count)) key (names word count) place
    → (slot_of place < 15 → (e : K × V) × (arrival array.arrivals (slot_of place) ≡ Some e) × (least_from cmp array.entries key ≡ Some e)) × (15 ≤ slot_of place → least_from cmp array.entries key ≡ None)
least_seen o {len = len} a key place there =
    let t = a.it.table in
    let least = least_of o key _ _ place t.in_order.ascend (λ i slot there. let s = stands t.in_order i slot there in (omega (arith, early t i slot there, t.few_made, len_small len t.is_len), s.0, s.2)) there in
    rw (entries_seen a) (λ lt. let h = least.0 lt in let s = stands t.in_order h.0 _ h.2 in (h.1, arrival_seen a (slot_of place) ∙ s.1 ∙ sym s.2 ∙ h.3, h.4), least.1)

pub returns-then-slot-lt-BEYOND-clause-found : goal.returns-then-slot-lt-BEYOND-clause-found
returns-then-slot-lt-BEYOND-clause-found g c =
    let a = fields c.order_of.ensures.word c.order_of.ensures.count refl c.self.invariant c.self.view_is in
    rw c.slot-slot.ensures ((least_seen g.met.K.Ord.total a _ c.find.result c.find.ensures.place).0 (omega (arith, c.if-slot-lt-BEYOND.true, c.slot-slot.ensures)))

pub returns-else-slot-lt-BEYOND-clause-found : goal.returns-else-slot-lt-BEYOND-clause-found
returns-else-slot-lt-BEYOND-clause-found g c =
    let a = fields c.order_of.ensures.word c.order_of.ensures.count refl c.self.invariant c.self.view_is in
    (least_seen g.met.K.Ord.total a _ c.find.result c.find.ensures.place).1 (omega (arith, c.if-slot-lt-BEYOND.false, c.slot-slot.ensures))
