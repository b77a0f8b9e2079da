-- The least entry whose key isn't less than another.
use Rattle.std.proofs.Common.{◌≡◌, ℕ, zero, suc, ◌<◌, ◌≤◌, true, List, [], ◌∷◌, length, take, slice_get, None, Some, refl, ap, inl, inr, arith, Ordering, Greater, take_all, is_ge}
use Rattle.tree_cells.proofs.Common.{IsTotalOrder, AllByRecursion, IsAscending, tied_back, none-some, same_Some, least_from, IsPlace, slot_of, At, Before, all_map, find_none}
use Rattle.tree_cells.proofs.Common.{greater_from_less, less_from_greater}
use Rattle.tree_cells.specs.declared.search.Place.{Place}
use Rattle.tree_cells.proofs.Sides.{next_larger, sides_key}

module _ {K V : Type 0} {cmp : K → K → Ordering} (o : IsTotalOrder cmp) (key : K) where
  -- behind smaller entries it is the next one
  least_at : (entries : List (K × V)) (n : ℕ) (e : K × V) → AllByRecursion (λ e. cmp key e.0 ≡ Greater) (take n entries) → slice_get entries n ≡ Some e → is_ge (cmp e.0 key) ≡ true → least_from cmp entries key ≡ Some e
  least_at [] n e smaller there ge = absurd (none-some e there)
  least_at (f ∷ entries) zero e smaller there ge = let same : f ≡ e = same_Some f e there in rw (same, ge) refl
  least_at (f ∷ entries) (suc n) e smaller there ge = rw (less_from_greater o key f.0 smaller.0) (least_at entries n e smaller.1 there ge)

  -- what the slot of a place says of it
  pub least_of : (entries : List (K × V)) (slots : List ℕ) (place : Place) → IsAscending cmp entries → ((i slot : ℕ) → slice_get slots i ≡ Some slot → (slot < 15) × (e : K × V) × (slice_get entries i ≡ Some e)) → IsPlace cmp entries key slots place
      → (slot_of place < 15 → (i : ℕ) × (e : K × V) × (slice_get slots i ≡ Some (slot_of place)) × (slice_get entries i ≡ Some e) × (least_from cmp entries key ≡ Some e)) × (15 ≤ slot_of place → least_from cmp entries key ≡ None)
  least_of entries slots (At i slot) h stand (has, there) = (
    λ lt. (i, has.pair, there, has.there, least_at entries i has.pair (sides_key o h has).smaller has.there (ap is_ge (tied_back o key has.pair.0 has.same))),
    λ le. absurd (omega (arith, (stand i slot there).0)),
  )
  least_of entries slots (Before i slot) h stand (inl (parts, there)) =
      let s = stand i slot there in (
        λ lt. (i, s.1, there, s.2, least_at entries i s.1 parts.smaller s.2 (ap is_ge (greater_from_less o key s.1.0 (next_larger o parts s.1 s.2)))),
        λ le. absurd (omega (arith, s.0)),
      )
  least_of entries slots (Before i slot) h stand (inr (past, is, parts)) = (
    λ lt. absurd (omega (arith, is)),
    λ le. find_none _ entries (all_map (λ e h. ap is_ge (less_from_greater o key e.0 h)) entries (rw (take_all (length entries) entries (omega arith)) at parts.smaller)),
  )
