use Rattle.std.proofs.Common.{◌-◌, true, set, length, None}
use Rattle.tree_array.proofs.Lemmas.{◌≡◌, ℕ, List, Option, Some, slice_get, Ordering, refl, sym, ◌∙◌, ap, rules, arith, IsTotalOrder, nat_tests, tied_itself, same_Some, held, HasKey}
use Rattle.tree_array.proofs.Lemmas.{IsInOrder, stands, stands_some, arrival_seen, count_seen, fields, place_seen, length-names, cases_lt, tied_back, without, Arrivals, arrival, names}
use Rattle.tree_array.proofs.Lemmas.{removed, IsArray, is_empty, its_pair, length-held, set_at, spent, within, is_retired, taken_out, IsOrder, live, AreFields, same_arrays, spend_seen}
use Rattle.tree_array.proofs.array.ArrayOf.take_at.Goals.{then-order-eq-RETIRED, else-order-eq-RETIRED}
use Rattle.tree_array.proofs.array.ArrayOf.take_at.Goals as goal

-- the array is seen without the key, and its mark says whether an entry is left
module _ {K V : Type 0} {cmp : K → K → Ordering} (o : IsTotalOrder cmp) {len : ℕ} {cells : List (Option (K × V))} {word count made : ℕ} {array : Arrivals K V} (a : AreFields cmp len cells word count made array) {i p : ℕ} (is : slice_get (names word count) i ≡ Some p) {key : K} (has : HasKey cmp (held cells (names word count)) key i) {word' count' : ℕ} (fewer : count' ≡ count - 1) (placed : names word' (count - 1) ≡ taken_out i (names word count)) (order : IsOrder len word' count') where
  pub taken : (count' ≡ 0 → is_retired word' ≡ true) → AreFields cmp len (set cells p None) word' count' made (removed cmp array key)
  taken retires =
      let old = its_pair o a.it.table is has in
      let gone = spent o a.it.table is has in
      let it : IsArray cmp len (set cells p None) word' count' made = record { table = rw (fewer, placed) gone.0; order = order } in
      let entries = ap (held (set cells p None)) (ap (names word') fewer ∙ placed) ∙ gone.1 in
      let left : length (without cmp (held cells (names word count)) key) ≡ count' = ap length (sym entries) ∙ length-held it.table.in_order ∙ length-names word' count' in
      let mark : is_retired word' ≡ is_empty (without cmp (held cells (names word count)) key) = grind (arith, nat_tests, left, live order, retires, cases_lt 0 count') in
      record {
        it = it;
        view = same_arrays _ _ _ _ _ _ (spend_seen o a.it.table key (arrival (set cells p None)) p has.pair old (tied_back o key has.pair.0 has.same) (set_at cells p None (within cells p has.pair old))) mark entries ∙ ap (λ (array : Arrivals K V). removed cmp array key) a.view;
      }

pub slot_at-requires : goal.slot_at-requires
slot_at-requires g c = omega (arith, c.requires, count_seen (fields c.order_of-order.ensures.word c.order_of-order.ensures.count refl c.self.invariant c.self.view_is))

pub take-key-requires : goal.take-key-requires
take-key-requires g c = (search rules, stands_some (fields c.order_of-order.ensures.word c.order_of-order.ensures.count refl c.self.invariant c.self.view_is).it.table.in_order c.args.place _ c.slot_at.ensures)

pub remove-order-requires : goal.remove-order-requires
remove-order-requires g c = omega (arith, c.requires, count_seen (fields c.order_of-order.ensures.word c.order_of-order.ensures.count refl c.self.invariant c.self.view_is))

pub set_entries-requires : goal.set_entries-requires
set_entries-requires g c =
    let a = fields c.order_of-order.ensures.word c.order_of-order.ensures.count refl c.self.invariant c.self.view_is in
    (search rules, rw c.take-key.ensures.counts (omega (arith, a.it.table.few, length-names c.order_of-order.result.word c.order_of-order.result.count, c.remove-order.ensures.count)))

-- the entry at the place has the key that is returned
has : {K V : Type 0} {cmp : K → K → Ordering} (o : IsTotalOrder cmp) {cells : List (Option (K × V))} {slots : List ℕ} (it : IsInOrder cmp cells slots) (i p : ℕ) (pair : K × V) → slice_get slots i ≡ Some p → arrival cells p ≡ Some pair → HasKey cmp (held cells slots) pair.0 i
has o it i p pair there stands_there =
    let s = stands it i p there in
    record { pair = pair; there = s.2 ∙ ap (λ (e : _ × _). Some e) (same_Some s.0 pair (sym s.1 ∙ stands_there)); same = tied_itself o pair.0 }

pub invariant_of-self : goal.invariant_of-self
invariant_of-self g c =
    let a = fields c.order_of-order.ensures.word c.order_of-order.ensures.count refl c.self.invariant c.self.view_is in
    let o = g.met.K.Ord.total in
    let kept = c.set_entries.ensures in
    let left = c.remove-order.ensures in
    rw (kept.pairs, kept.entries, kept.arrivals, c.take-key.ensures.spent, c.take-key.ensures.counts) (taken o a c.slot_at.ensures (has o a.it.table.in_order c.args.place _ _ c.slot_at.ensures c.take-key.ensures.pair) left.count left.names c.remove-order.result.whole (λ none. left.retired (omega (arith, none, left.count, c.requires, count_seen a)))).it

pub returns : goal.returns
returns g c =
    let a = fields c.order_of-order.ensures.word c.order_of-order.ensures.count refl c.self.invariant c.self.view_is in
    let o = g.met.K.Ord.total in
    let kept = c.set_entries.ensures in
    let left = c.remove-order.ensures in
    let s = place_seen a c.args.place _ c.slot_at.ensures in
    record {
      pair = s.2 ∙ sym s.1 ∙ arrival_seen a _ ∙ c.take-key.ensures.pair;
      left = rw (kept.pairs, kept.entries, kept.arrivals, c.take-key.ensures.spent, c.take-key.ensures.counts) (taken o a c.slot_at.ensures (has o a.it.table.in_order c.args.place _ _ c.slot_at.ensures c.take-key.ensures.pair) left.count left.names c.remove-order.result.whole (λ none. left.retired (omega (arith, none, left.count, c.requires, count_seen a)))).view;
      answer = elim c.if-order-eq-RETIRED.branch [
        | then-order-eq-RETIRED w ↦ rw (w.removal-is, w.if-order-eq-RETIRED.true) refl
        | else-order-eq-RETIRED w ↦ rw w.removal-is (grind (arith, nat_tests, w.if-order-eq-RETIRED.false))
      ];
    }
