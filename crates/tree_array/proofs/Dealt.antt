-- Entries that are taken, and arrays whose arrivals are all spent.
use Rattle.std.proofs.Common.{◌-◌, arith, ◌≡◌, ℕ, zero, suc, ◌<◌, true, length, map, drop, take, get_or, List, [], ◌∷◌, ◌++◌, slice_get, Option, Some, None, refl, sym, ◌∙◌, replicate, ext_get_or, ap, Ordering, Less}
use Rattle.tree_array.proofs.Common.{splat_is_map, get_or-replicate, length-replicate, IsTotalOrder, IsAscending, without, Arrivals, arrival, without_first, all_at, drained}

module _ {K V : Type 0} where
  -- an arrival after each is changed
  pub arrival-map : (f : Option (K × V) → Option (K × V)) → f None ≡ None → (arrivals : List (Option (K × V))) (p : ℕ) → arrival (map f arrivals) p ≡ f (arrival arrivals p)
  arrival-map f none [] p = sym none
  arrival-map f none (a ∷ arrivals) p = grind (arith, none, arrival-map f none arrivals (p - 1))

module _ {K V : Type 0} {cmp : K → K → Ordering} (o : IsTotalOrder cmp) where
  -- the entries before one that was taken, and those behind it
  pub parted : (n : ℕ) (entries : List (K × V)) (e : K × V) → IsAscending cmp entries → slice_get entries n ≡ Some e → (take n (without cmp entries e.0) ≡ take n entries) × (drop n (without cmp entries e.0) ≡ drop (suc n) entries)
  parted n [] e h there = absurd (cc)
  parted zero (f ∷ rest) e h there = grind (arith, without_first o f rest h)
  parted (suc n) (f ∷ rest) e h there = grind (arith, all_at (λ (x : K × V). cmp f.0 x.0 ≡ Less) rest n e h.0, parted n rest e h.1)

module _ {X : Type 0} where
  -- one more element of a list
  pub one_more : (n : ℕ) (xs : List X) (x : X) (rest : List X) → drop n xs ≡ x ∷ rest → (take (suc n) xs ≡ take n xs ++ x ∷ []) × (drop (suc n) xs ≡ rest) × (n < length xs) × (slice_get xs n ≡ Some x)
  one_more zero [] x rest h = cc
  one_more (suc n) [] x rest h = cc
  one_more zero (y ∷ xs) x rest h = grind arith
  one_more (suc n) (y ∷ xs) x rest h = grind (arith, one_more n xs x rest)

-- ---- an array whose entries are all taken
pub spent_list : {X Y : Type 0} (spent : List (Option X)) (others : List Y) → length spent ≡ length others → ((p : ℕ) → get_or spent p None ≡ None) → spent ≡ map (λ _. None) others
spent_list spent others same none =
    ext_get_or None spent (replicate (length others) None) (same ∙ sym (length-replicate (length others) None)) (λ p lt. none p ∙ sym (get_or-replicate (length others) p None None (omega (arith, lt, same))))
    ∙ splat_is_map others (length others) None refl

-- what is left of it depends on how many arrivals there were
pub drained_same : {K V : Type 0} (array other : Arrivals K V) → length array.arrivals ≡ length other.arrivals → drained array ≡ drained other
drained_same {K} {V} array other whole = ap (λ (arrivals : List (Option (K × V))). record { arrivals = arrivals; retired = true; entries = [] }) (sym (splat_is_map array.arrivals (length other.arrivals) None whole) ∙ splat_is_map other.arrivals (length other.arrivals) None refl)
