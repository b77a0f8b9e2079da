-- Children of a node whose keys are outside two bounds, and keys of one child that need one bound alone.
use Rattle.tree_cut.proofs.Common.{◌≡◌, ◌≢◌, ℕ, zero, suc, ◌≤◌, ◌<◌, Bool, true, false, not, cond, List, [], ◌∷◌, filter, take, drop, length, Option, Some, None, refl, ap, arith, inl, inr, flat_map, Ordering, Less, is_le, take-append-drop, AllByRecursion, IsTotalOrder, Bound, Unbounded, cases_Bool, cut, within, all_map, all-append, TreeArenas, AreParted, IsAbove, IsUpTo, Stands, in_turn, walk, meets_lower, meets_upper, Narrows, back_total, less_from_test, all_both, less_upto, child_between, first_child, high_at, low_at, parted_within, walk_within, walk_above, walk_up_to}

-- a key that meets a lower bound carries it over to each larger key
lower_up : {K : Type 0} {cmp : K → K → Ordering} → IsTotalOrder cmp → (low : Bound K) (k s : K) → meets_lower cmp low k ≡ true → is_le (cmp k s) ≡ true
    → meets_lower cmp low s ≡ true
lower_up o low k s h le = grind (arith, less_upto, o.congr, less_from_test)

filter_alike : {X : Type 0} (test other : X → Bool) (xs : List X) → AllByRecursion (λ x. test x ≡ other x) xs → filter test xs ≡ filter other xs
filter_alike test other [] same = refl
filter_alike test other (x ∷ xs) same = rw same.0 (ap (λ rest. cond (other x) (x ∷ rest) rest) (filter_alike test other xs same.1))

-- a key that meets a bound where it isn't left to test meets both
narrows_alike : {K : Type 0} {bound result : Bound K} {place own : ℕ} → Narrows bound result place own → (test : Bound K → Bool) → test Unbounded ≡ true
    → (place ≢ own → test bound ≡ true) → test result ≡ test bound
narrows_alike narrows test free met = grind (arith, narrows.kept, narrows.opened, met)

-- no key of these pairs is within the bounds
abbrev pub IsOutside : {K V : Type 0} → (K → K → Ordering) → Bound K → Bound K → List (K × V) → Type 0
IsOutside cmp low high pairs = AllByRecursion (λ p. not (within cmp low high p.0) ≡ true) pairs

module _ {K : Type 0} {cmp : K → K → Ordering} (o : IsTotalOrder cmp) (low high : Bound K) where
  -- one that meets an upper bound carries it over to each smaller one
  upper_down : (high : Bound K) (k s : K) → meets_upper cmp high s ≡ true → is_le (cmp k s) ≡ true → meets_upper cmp high k ≡ true
  upper_down high k s h le = grind (arith, lower_up, back_total)

  -- a key up to a separator that misses the lower bound is outside the bounds, and so is one above what closes them
  key_before : (s k : K) → meets_lower cmp low s ≡ false → is_le (cmp k s) ≡ true → not (within cmp low high k) ≡ true
  key_before s k misses le = grind (arith, cases_Bool, lower_up)

  key_after : (k : K) → meets_upper cmp high k ≡ false → not (within cmp low high k) ≡ true
  key_after k misses = elim (cases_Bool (meets_lower cmp low k)) [ inl meets ↦ rw (misses, meets) refl | inr fails ↦ rw fails refl ]

  -- what is above a child behind the first that opens the lower bound meets it
  pub low_opened : (pairs : List (K × ℕ)) (before : Option K) (first place : ℕ) → first < place → place ≤ length pairs
      → AllByRecursion (λ c. (k : K) → cmp c.0 k ≡ Less → meets_lower cmp low k ≡ true) (drop first pairs) → (k : K)
      → IsAbove cmp (low_at before (take place pairs)) k
      → meets_lower cmp low k ≡ true
  low_opened [] before first place more within opened k above = absurd (omega (arith, more, within))
  low_opened (c ∷ pairs) before first zero more within opened k above = absurd (omega (arith, more))
  low_opened (c ∷ pairs) before zero (suc zero) more within opened k above = opened.0 k above
  low_opened (c ∷ pairs) before zero (suc (suc place)) more within opened k above =
      low_opened pairs (Some c.0) zero (suc place) (omega arith) (omega (arith, within)) opened.1 k above
  low_opened (c ∷ pairs) before (suc first) (suc place) more within opened k above =
      low_opened pairs (Some c.0) first place (omega (arith, more)) (omega (arith, within)) opened k above

  -- and what a keyed child may have meets an upper bound that its separator meets
  pub high_met : (pairs : List (K × ℕ)) (place : ℕ) → place < length pairs → AllByRecursion (λ c. meets_upper cmp high c.0 ≡ true) (take (suc place) pairs)
      → (k : K) → IsUpTo cmp k (high_at (drop place pairs) None) → meets_upper cmp high k ≡ true
  high_met [] place within met k up_to = absurd (omega (arith, within))
  high_met (c ∷ pairs) zero within met k up_to = upper_down high k c.0 met.0 up_to
  high_met (c ∷ pairs) (suc place) within met k up_to = high_met pairs place (omega (arith, within)) met.1 k up_to

  module _ {V : Type 0} {LEN : ℕ} (level : ℕ) (a : TreeArenas K V LEN) where
    pub fronts_outside : (before : Option K) (pairs : List (K × ℕ)) (last : ℕ) (after : Option K) → AreParted cmp (Stands cmp level a) before pairs last after
        → (place : ℕ) → place ≤ length pairs → AllByRecursion (λ c. meets_lower cmp low c.0 ≡ false) (take place pairs)
        → IsOutside cmp low high (flat_map (walk level a) (take place (in_turn pairs (Some last))))
    fronts_outside before pairs last after parted zero within missed = tt
    fronts_outside before [] last after parted (suc place) within missed = absurd (omega (arith, within))
    fronts_outside before (c ∷ pairs) last after parted (suc place) within missed =
        all-append _ (walk level a c.1) _
        (all_map (λ p h. key_before c.0 p.0 missed.0 h) _ (walk_up_to o level a before c.1 (Some c.0) parted.0))
        (fronts_outside (Some c.0) pairs last after parted.3 place (omega (arith, within)) missed.1)

    pub backs_outside : (before : Option K) (pairs : List (K × ℕ)) (last : ℕ) (after : Option K) → AreParted cmp (Stands cmp level a) before pairs last after
        → (place : ℕ) → place ≤ length pairs → AllByRecursion (λ c. (k : K) → cmp c.0 k ≡ Less → meets_upper cmp high k ≡ false) (drop place pairs)
        → IsOutside cmp low high (flat_map (walk level a) (drop (suc place) (in_turn pairs (Some last))))
    backs_outside before [] last after parted zero within closed = tt
    backs_outside before [] last after parted (suc place) within closed = absurd (omega (arith, within))
    backs_outside before (c ∷ pairs) last after parted zero within closed = grind (arith, all_map, key_after, closed.0, parted_within, walk_within, parted.3)
    backs_outside before (c ∷ pairs) last after parted (suc place) within closed =
        backs_outside (Some c.0) pairs last after parted.3 place (omega (arith, within)) closed

    -- In one child the bounds that are left to test there say the same as both.
    pub narrowed_cut : (pairs : List (K × ℕ)) (last place child first final : ℕ) (lo hi : Bound K) → AreParted cmp (Stands cmp level a) None pairs last None
        → first_child (drop place pairs) last ≡ child → Narrows low lo place first → Narrows high hi place final
        → (place ≢ first → (k : K) → IsAbove cmp (low_at None (take place pairs)) k → meets_lower cmp low k ≡ true)
        → (place ≢ final → (k : K) → IsUpTo cmp k (high_at (drop place pairs) None) → meets_upper cmp high k ≡ true)
        → cut cmp (walk level a child) lo hi ≡ cut cmp (walk level a child) low high
    narrowed_cut pairs last place child first final lo hi parted is narrow_low narrow_high lows highs =
        let stands : Stands cmp level a (low_at None (take place pairs)) child (high_at (drop place pairs) None) =
        rw is at (child_between o (Stands cmp level a) None (take place pairs) (drop place pairs) last None (rw (take-append-drop place pairs) parted)) in
        filter_alike _ _ (walk level a child)
        (all_map (λ p both.
        let lower = narrows_alike narrow_low (λ b. meets_lower cmp b p.0) refl (λ differs. lows differs p.0 both.0) in
        let upper = narrows_alike narrow_high (λ b. meets_upper cmp b p.0) refl (λ differs. highs differs p.0 both.1) in
        rw (lower, upper) refl) _
        (all_both _ _ _ (walk_above o level a _ child _ stands) (walk_up_to o level a _ child _ stands)))
