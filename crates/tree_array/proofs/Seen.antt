-- What contracts see of the arrivals of an array after one is spent.
use Rattle.std.proofs.Common.{arith, ◌≡◌, ℕ, Bool, false, List, Option, None, Some, refl, sym, ◌∙◌, Ordering, Equal, is_eq}
use Rattle.tree_array.proofs.Common.{IsTotalOrder, AllByRecursion, cases_eq, tied_back, Arrivals, arrival, spent_at, spend, IsTabled, picked, held}
use Rattle.tree_array.proofs.Common.{IsSetAt, picked-map, each_arrival, one_arrival}

pub same_arrays : {K V : Type 0} (a b : List (Option (K × V))) (r s : Bool) (l m : List (K × V)) → a ≡ b → r ≡ s → l ≡ m → ◌≡◌ {A = Arrivals K V} (record { arrivals = a; retired = r; entries = l }) (record { arrivals = b; retired = s; entries = m })
same_arrays a b r s l m e f g = rw (e, f, g) refl

-- an arrival of another key stays
pub unspent : {K V : Type 0} (cmp : K → K → Ordering) (key : K) (a : Option (K × V)) → ((e : K × V) → a ≡ Some e → is_eq (cmp e.0 key) ≡ false) → spent_at cmp key a ≡ a
unspent cmp key a other = grind arith

-- a key that compares as another is spent where that is
module _ {K V : Type 0} {cmp : K → K → Ordering} (o : IsTotalOrder cmp) {len : ℕ} {cells : List (Option (K × V))} {slots : List ℕ} {made : ℕ} (it : IsTabled cmp len cells slots made) (key : K) where
  -- the arrivals after that of the key is spent
  pub spend_seen : (pick' : ℕ → Option (K × V)) (old : ℕ) (before : K × V) → arrival cells old ≡ Some before → cmp before.0 key ≡ Equal → IsSetAt (arrival cells) pick' old None → picked pick' made ≡ spend cmp (picked (arrival cells) made) key
  spend_seen pick' old before at_old same set = picked-map (spent_at cmp key) (arrival cells) pick' made (λ p lt.
      let one = λ (e : K × V) (some : arrival cells p ≡ Some e) (h : cmp e.0 key ≡ Equal). one_arrival it o p old e before some at_old (o.congr e.0 key before.0 h ∙ tied_back o before.0 key same) in
      grind (arith, cases_eq p old, set.here, set.others p, at_old, same, one))

  -- without an entry of the key nothing is spent
  pub spend_absent : AllByRecursion (λ e. is_eq (cmp e.0 key) ≡ false) (held cells slots) → picked (arrival cells) made ≡ spend cmp (picked (arrival cells) made) key
  spend_absent absent = picked-map (spent_at cmp key) (arrival cells) (arrival cells) made (λ p lt. sym (unspent cmp key (arrival cells p) (each_arrival it (λ e. is_eq (cmp e.0 key) ≡ false) absent p)))
