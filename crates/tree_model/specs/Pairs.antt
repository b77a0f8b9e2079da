-- An index as a list of pairs of a key and a value, strictly ascending by key. `cmp` is the order of the keys.
use Rattle.std.specs.Prelude.{◌≡◌, Bool, true, List, [], ◌∷◌, ◌++◌, filter, find, not, ◌&&◌, Option, None, Some, IsSome, MatchOption, ⊤}
use Rattle.std.specs.Borrow.{Bor}
use Rattle.std.specs.List.{AllByRecursion}
use Rattle.std.specs.declared.cmp.Ordering.{Ordering}
use Rattle.std.specs.declared.cmp.Ordering.TheVariants.{Less}
use Rattle.std.specs.Ordering.{is_lt, is_le, is_eq, is_gt}
use Rattle.std.specs.Range.Bound.{bound_map}
use Rattle.std.specs.declared.ops.Bound.{Bound}
use Rattle.std.specs.declared.ops.Bound.TheVariants.{Included, Excluded, Unbounded}

module _ {K V : Type 0} (cmp : K → K → Ordering) where
  -- each key of the list is larger than k
  abbrev pub AllLarger : K → List (K × V) → Type 0
  AllLarger k l = AllByRecursion (λ pair. cmp k pair.0 ≡ Less) l

  -- each key is smaller than every key after it
  abbrev pub IsAscending : List (K × V) → Type 0
  IsAscending [] = ⊤
  IsAscending (pair ∷ pairs) = AllLarger pair.0 pairs × IsAscending pairs

  -- the pairs with a smaller key, and those with a larger one
  abbrev pub below : List (K × V) → K → List (K × V)
  below l k = filter (λ pair. is_lt (cmp pair.0 k)) l

  abbrev pub above : List (K × V) → K → List (K × V)
  above l k = filter (λ pair. is_gt (cmp pair.0 k)) l

  -- the pair whose key equals k
  abbrev pub pair_at : List (K × V) → K → Option (K × V)
  pair_at l k = find (λ pair. is_eq (cmp pair.0 k)) l

  abbrev pub IsPresent : List (K × V) → K → Type 0
  IsPresent l k = IsSome (pair_at l k)

  abbrev pub IsAbsent : List (K × V) → K → Type 0
  IsAbsent l k = pair_at l k ≡ None

  -- a look-up lends the pair whose key equals k, or there is none
  abbrev pub Finds : List (K × V) → K → Option (Bor K × Bor V) → Type 0
  Finds l k result = MatchOption result (IsAbsent l k) (λ pair. pair_at l k ≡ Some (pair.0.now, pair.1.now))

  -- l with the pair (k, v), in place of one whose key equals k
  abbrev pub put : List (K × V) → K → V → List (K × V)
  put l k v = below l k ++ (k, v) ∷ above l k

  -- l without the pair whose key equals k
  abbrev pub without : List (K × V) → K → List (K × V)
  without l k = below l k ++ above l k

module _ {K : Type 0} where
  -- a bound, with the key that it borrows
  abbrev pub lent_bound : Bound (Bor K) → Bound K
  lent_bound bound = bound_map (λ key. key.now) bound

  -- both bounds of a call
  abbrev pub low_of : Bound (Bor K) × Bound (Bor K) → Bound K
  low_of bounds = lent_bound bounds.0

  abbrev pub high_of : Bound (Bor K) × Bound (Bor K) → Bound K
  high_of bounds = lent_bound bounds.1

module _ {K : Type 0} (cmp : K → K → Ordering) where
  -- k meets a lower bound
  abbrev pub meets_lower : Bound K → K → Bool
  meets_lower (Included low) k = is_le (cmp low k)
  meets_lower (Excluded low) k = is_lt (cmp low k)
  meets_lower Unbounded k = true

  -- k meets an upper bound
  abbrev pub meets_upper : Bound K → K → Bool
  meets_upper (Included high) k = is_le (cmp k high)
  meets_upper (Excluded high) k = is_lt (cmp k high)
  meets_upper Unbounded k = true

  -- k meets both bounds, each by itself
  abbrev pub within : Bound K → Bound K → K → Bool
  within low high k = meets_lower low k && meets_upper high k

-- the pairs of l whose keys aren't within the bounds
abbrev pub cut : {K V : Type 0} → (K → K → Ordering) → List (K × V) → Bound K → Bound K → List (K × V)
cut cmp l low high = filter (λ pair. not (within cmp low high pair.0)) l
