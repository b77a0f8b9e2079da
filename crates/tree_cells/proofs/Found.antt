-- What the entries of an array are among its arrivals, and what look-ups find there.
use Rattle.std.proofs.Common.{arith, ◌≡◌, ℕ, zero, suc, Bool, true, false, List, [], ◌∷◌, find, map, Option, None, Some, inl, inr, refl, sym, ◌∙◌, Ordering}
use Rattle.tree_cells.proofs.Common.{cases_Bool, IsTotalOrder, pair_at, tied_back, tied_itself, none-some, same_Some, find_none, equal_from_test, arrival, held, reachable, sorted, IsTabled, picked}
use Rattle.tree_cells.proofs.Entries.{sorted_as}
use Rattle.tree_cells.proofs.Picks.{arrival-all}
use Rattle.tree_cells.proofs.Sides.{all_behind, key_found}
use Rattle.tree_cells.proofs.Tabled.{listed_at, one_arrival, slot_there}

-- what a search among arrivals finds is one that passes its test, or each fails it
module _ {K V : Type 0} (test : K × V → Bool) where
  found_arrival : (arrivals : List (Option (K × V))) (e : K × V) → find test (reachable arrivals) ≡ Some e → (p : ℕ) × (arrival arrivals p ≡ Some e) × (test e ≡ true)
  found_arrival [] e some = absurd (none-some e some)
  found_arrival (None ∷ arrivals) e some = let p = found_arrival arrivals e some in (suc p.0, p.1, p.2)
  found_arrival (Some f ∷ arrivals) e some = elim (cases_Bool (test f)) [
    | inl passes ↦ (0, rw passes at some, rw (← same_Some f e (rw passes at some)) passes)
    | inr fails ↦ let p = found_arrival arrivals e (rw fails at some) in (suc p.0, p.1, p.2)
  ]

  all_fail : (arrivals : List (Option (K × V))) (p : ℕ) (e : K × V) → arrival arrivals p ≡ Some e → find test (reachable arrivals) ≡ None → test e ≡ false
  all_fail [] p e there none = absurd (cc)
  all_fail (a ∷ arrivals) zero e there none = grind arith
  all_fail (a ∷ arrivals) (suc p) e there none = grind (arith, all_fail arrivals p e)

module _ {K V : Type 0} {cmp : K → K → Ordering} (o : IsTotalOrder cmp) {len : ℕ} {cells : List (Option (K × V))} {slots : List ℕ} {made : ℕ} (it : IsTabled cmp len cells slots made) where
  -- a look-up among arrivals finds what it finds among entries
  found_alike : (key : K) → pair_at cmp (reachable (picked (arrival cells) made)) key ≡ pair_at cmp (held cells slots) key
  found_alike key = go (pair_at cmp (reachable (picked (arrival cells) made)) key) refl
    where
      at_arrival : (p : ℕ) → arrival (picked (arrival cells) made) p ≡ arrival cells p
      at_arrival p = arrival-all (arrival cells) made it.unmade p

      go : (found : Option (K × V)) → pair_at cmp (reachable (picked (arrival cells) made)) key ≡ found → found ≡ pair_at cmp (held cells slots) key
      go None none = sym (find_none _ (held cells slots) (all_behind _ (held cells slots) 0 (λ i e le there. let s = slot_there it.in_order i e there in all_fail _ _ s.0 e (at_arrival s.0 ∙ s.2) none)))
      go (Some e) some =
          let p = found_arrival _ _ e some in
          let l = listed_at it p.0 e (sym (at_arrival p.0) ∙ p.1) in
          sym (key_found o (held cells slots) it.in_order.ascend record { pair = e; there = l.2; same = tied_back o e.0 key (equal_from_test _ p.2) })

  -- the entries are the reachable arrivals in the order of their keys
  pub sorted_held : sorted cmp (reachable (picked (arrival cells) made)) ≡ held cells slots
  sorted_held = sorted_as o (reachable (picked (arrival cells) made)) (held cells slots) it.in_order.ascend found_alike

  -- slots whose arrivals are the entries are those of the order
  pub same_slots : (others : List ℕ) → map (arrival cells) others ≡ map Some (held cells slots) → others ≡ slots
  same_slots others stand = go others slots (held cells slots) stand it.in_order.stand
    where
      go : (xs ys : List ℕ) (entries : List (K × V)) → map (arrival cells) xs ≡ map Some entries → map (arrival cells) ys ≡ map Some entries → xs ≡ ys
      go [] [] entries h i = refl
      go [] (y ∷ ys) entries h i = absurd (cc)
      go (x ∷ xs) [] entries h i = absurd (cc)
      go (x ∷ xs) (y ∷ ys) [] h i = absurd (cc)
      go (x ∷ xs) (y ∷ ys) (e ∷ entries) h i = rw (one_arrival it o x y e e (cc) (cc) (tied_itself o e.0), go xs ys entries (cc) (cc)) refl
