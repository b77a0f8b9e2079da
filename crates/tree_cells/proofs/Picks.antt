-- The arrivals of an array, as a list of what is picked by their numbers.
use Rattle.std.proofs.Common.{◌≡◌, ◌⊎◌, ℕ, ◌<◌, ◌≤◌, List, [], ◌∷◌, map, length, Option, None, Some, IsSome, refl, sym, ◌∙◌, ap, inl, inr, arith}
use Rattle.tree_cells.proofs.Common.{fill_by_all, get_or-map, length-map, cases_lt, false≢true, get_or_past, map-id, arrival, reachable, picked, length-picked, get_or-picked}

-- a value is there or not
pub cases_option : {A : Type 0} (o : Option A) → (o ≡ None) ⊎ ((a : A) × (o ≡ Some a))
cases_option None = inl refl
cases_option (Some a) = inr (a, refl)

module _ {K V : Type 0} where
  pub arrival-picked : (pick : ℕ → Option (K × V)) (n p : ℕ) → p < n → arrival (picked pick n) p ≡ pick p
  arrival-picked pick n p lt = get_or-picked pick n p None lt

  -- where no more arrivals were made, each stands in the list
  pub arrival-all : (pick : ℕ → Option (K × V)) (n : ℕ) → ((p : ℕ) → n ≤ p → pick p ≡ None) → (p : ℕ) → arrival (picked pick n) p ≡ pick p
  arrival-all pick n unmade p = grind (arith, get_or_past (picked pick n) p None, length-picked pick n, arrival-picked pick n p, unmade p, cases_lt p n)

  -- a reachable arrival was made
  pub made_early : (pick : ℕ → Option (K × V)) (n : ℕ) → ((p : ℕ) → n ≤ p → pick p ≡ None) → (p : ℕ) (e : K × V) → pick p ≡ Some e → p < n
  made_early pick n unmade p e some = grind (arith, unmade p, some, cases_lt p n)

  -- the list changes as each arrival does
  pub picked-map : (f : Option (K × V) → Option (K × V)) (pick pick' : ℕ → Option (K × V)) (n : ℕ) → ((p : ℕ) → p < n → pick' p ≡ f (pick p)) → picked pick' n ≡ map f (picked pick n)
  picked-map f pick pick' n each =
      sym (fill_by_all pick' (map f (picked pick n)) n None (length-map _ _ ∙ length-picked pick n) (λ k lt. get_or-map f (picked pick n) k None None (omega (arith, length-picked pick n, lt)) ∙ ap f (arrival-picked pick n k lt) ∙ sym (each k lt)))

  pub picked_same : (pick pick' : ℕ → Option (K × V)) (n : ℕ) → ((p : ℕ) → p < n → pick' p ≡ pick p) → picked pick' n ≡ picked pick n
  picked_same pick pick' n each = picked-map (λ o. o) pick pick' n each ∙ map-id (picked pick n)

  -- ---- the reachable arrivals
  pub all_spent : (arrivals : List (Option (K × V))) → reachable arrivals ≡ [] → (p : ℕ) → arrival arrivals p ≡ None
  all_spent [] e p = refl
  all_spent (a ∷ arrivals) e p = grind (arith, all_spent arrivals)

  pub reachable_few : (arrivals : List (Option (K × V))) → length (reachable arrivals) ≤ length arrivals
  reachable_few [] = grind arith
  reachable_few (a ∷ arrivals) = grind (arith, reachable_few arrivals)

-- ---- what a test of an arrival says
pub some_of : {A : Type 0} (o : Option A) → IsSome o → (a : A) × (o ≡ Some a)
some_of None there = absurd (false≢true there)
some_of (Some a) there = (a, refl)
