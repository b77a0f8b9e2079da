-- Pairs in the order of their keys: put there one by one, and after an arrival is spent or cut.
use Rattle.std.proofs.Common.{arith, ◌≡◌, ℕ, suc, Bool, true, List, [], ◌∷◌, map, filter, Option, None, Some, if◌then◌else◌, inl, inr, refl, sym, ◌∙◌, ap, not, Ordering, is_eq, is_lt, is_gt}
use Rattle.tree_cells.proofs.Common.{cases_Bool, eq_by_cmp_equiv, Bound, IsTotalOrder, AllByRecursion, IsAscending, pair_at, without, within, cut, arrival, reachable, sorted, spend}
use Rattle.tree_cells.proofs.Common.{spent_at, cut_at, IsAscending-without, IsAscending-cut, find_kept, find_dropped, equal_from_test, pair_at-without, pair_at-cut, same_look_ups}
use Rattle.tree_cells.proofs.Common.{map-append, below, above, put, IsAscending-put, pair_at-put}

module _ {K V : Type 0} {cmp : K → K → Ordering} (o : IsTotalOrder cmp) where
  pub IsAscending-sorted : (pairs : List (K × V)) → IsAscending cmp (sorted cmp pairs)
  IsAscending-sorted [] = tt
  IsAscending-sorted (e ∷ pairs) = IsAscending-put o (sorted cmp pairs) e.0 e.1 (IsAscending-sorted pairs)

  -- a look-up finds what it finds in the pairs as they were
  pub pair_at-sorted : (key : K) (pairs : List (K × V)) → pair_at cmp (sorted cmp pairs) key ≡ pair_at cmp pairs key
  pair_at-sorted key [] = refl
  pair_at-sorted key (e ∷ pairs) =
      pair_at-put o key (sorted cmp pairs) e.0 e.1
      ∙ ap (λ (found : Option (K × V)). if is_eq (cmp e.0 key) then Some e else found) (pair_at-sorted key pairs)

-- ---- pairs whose values are replaced by another function of them
module _ {K X Y : Type 0} (cmp : K → K → Ordering) (f : K × X → Y) where
  abbrev pub with_values : List (K × X) → List (K × Y)
  with_values pairs = map (λ pair. (pair.0, f pair)) pairs

  values-filter : (side : K → Bool) (pairs : List (K × X)) → filter (λ pair. side pair.0) (with_values pairs) ≡ with_values (filter (λ pair. side pair.0) pairs)
  values-filter side [] = refl
  values-filter side (e ∷ pairs) = grind (arith, values-filter side pairs)

  values-put : (pairs : List (K × X)) (key : K) (val : X) → put cmp (with_values pairs) key (f (key, val)) ≡ with_values (put cmp pairs key val)
  values-put pairs key val =
      rw (values-filter (λ k. is_lt (cmp k key)) pairs, values-filter (λ k. is_gt (cmp k key)) pairs)
      (sym (map-append (λ pair. (pair.0, f pair)) (below cmp pairs key) ((key, val) ∷ above cmp pairs key)))

  -- they stand in the same order
  pub values-sorted : (pairs : List (K × X)) → sorted cmp (with_values pairs) ≡ with_values (sorted cmp pairs)
  values-sorted [] = refl
  values-sorted (e ∷ pairs) = rw (values-sorted pairs) (values-put (sorted cmp pairs) e.0 e.1)

module _ {K V : Type 0} where
  -- what is reachable after the arrivals that pass a test are spent
  reachable-spent : (test : K × V → Bool) (spent : Option (K × V) → Option (K × V)) → spent None ≡ None → ((e : K × V) → spent (Some e) ≡ (if test e then None else Some e)) → (arrivals : List (Option (K × V))) → reachable (map spent arrivals) ≡ filter (λ pair. not (test pair)) (reachable arrivals)
  reachable-spent test spent none some [] = refl
  reachable-spent test spent none some (a ∷ arrivals) = grind (arith, none, some, reachable-spent test spent none some arrivals)

  -- what holds of each arrival holds of all that are reachable
  pub all-reachable : (P : K × V → Type 0) (arrivals : List (Option (K × V))) → ((p : ℕ) (e : K × V) → arrival arrivals p ≡ Some e → P e) → AllByRecursion P (reachable arrivals)
  all-reachable P [] h = tt
  all-reachable P (a ∷ arrivals) h = grind (arith, h 0, all-reachable P arrivals (λ p. h (suc p)))

module _ {K V : Type 0} {cmp : K → K → Ordering} (o : IsTotalOrder cmp) where
  -- without the pairs that have a key, a look-up of another finds the same, and one of that key nothing
  pair_at-others : (pairs : List (K × V)) (key other : K) → pair_at cmp (filter (λ pair. not (is_eq (cmp pair.0 key))) pairs) other ≡ (if is_eq (cmp key other) then None else pair_at cmp pairs other)
  pair_at-others pairs key other = elim (cases_Bool (is_eq (cmp key other))) [
    | inl same ↦ rw same (find_dropped _ _ (λ pair h. ap not (as_other pair h ∙ same)) pairs)
    | inr differs ↦ rw differs (find_kept _ _ (λ pair h. ap not (as_other pair h ∙ differs)) pairs)
  ]
    where
      as_other : (pair : K × V) → is_eq (cmp pair.0 other) ≡ true → is_eq (cmp pair.0 key) ≡ is_eq (cmp key other)
      as_other pair same = ap is_eq (o.congr pair.0 other key (equal_from_test _ same)) ∙ (eq_by_cmp_equiv o).symm other key

  -- pairs stand in order as the ascending list in which each look-up finds what it finds among them
  pub sorted_as : (pairs list : List (K × V)) → IsAscending cmp list → ((key : K) → pair_at cmp pairs key ≡ pair_at cmp list key) → sorted cmp pairs ≡ list
  sorted_as pairs list h same = same_look_ups o (sorted cmp pairs) list (IsAscending-sorted o pairs) h (λ key. pair_at-sorted o key pairs ∙ same key)

  -- a key that is spent is gone from the entries
  pub entries-spend : (arrivals : List (Option (K × V))) (key : K) → sorted cmp (reachable (spend cmp arrivals key)) ≡ without cmp (sorted cmp (reachable arrivals)) key
  entries-spend arrivals key =
      let before = sorted cmp (reachable arrivals) in
      rw (reachable-spent (λ pair. is_eq (cmp pair.0 key)) (spent_at cmp key) refl (λ e. refl) arrivals)
      (sorted_as _ (without cmp before key) (IsAscending-without o before key (IsAscending-sorted o (reachable arrivals))) (λ other. pair_at-others (reachable arrivals) key other ∙ sym (pair_at-without o other before key ∙ rw (pair_at-sorted o other (reachable arrivals)) refl)))

  -- so are those within the bounds
  pub entries-cut : (arrivals : List (Option (K × V))) (low high : Bound K) → sorted cmp (reachable (map (cut_at cmp low high) arrivals)) ≡ cut cmp (sorted cmp (reachable arrivals)) low high
  entries-cut arrivals low high =
      let before = sorted cmp (reachable arrivals) in
      rw (reachable-spent (λ pair. within cmp low high pair.0) (cut_at cmp low high) refl (λ e. refl) arrivals)
      (sorted_as _ (cut cmp before low high) (IsAscending-cut cmp before low high (IsAscending-sorted o (reachable arrivals))) (λ other. pair_at-cut o other (reachable arrivals) low high ∙ sym (pair_at-cut o other before low high ∙ rw (pair_at-sorted o other (reachable arrivals)) refl)))
