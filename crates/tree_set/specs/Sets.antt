-- A set as a list of elements, strictly ascending. `cmp` is the order of the elements.
use Rattle.std.specs.Prelude.{◌≡◌, ℕ, Bool, true, false, not, List, [], ◌∷◌, ◌++◌, filter, find, map, nat_eq, Option, Result, Ok, Err, ⊤}
use Rattle.std.specs.List.{AllByRecursion, list_any, starts_with}
use Rattle.std.specs.Option.{option_or}
use Rattle.std.specs.declared.cmp.Ordering.{Ordering}
use Rattle.std.specs.declared.cmp.Ordering.TheVariants.{Less}
use Rattle.std.specs.declared.ops.Bound.{Bound}
use Rattle.std.specs.Ordering.{is_lt, is_eq, is_gt}
use Rattle.tree_leaf.specs.Walks.{first_of, last_of}
use Rattle.tree_model.specs.Pairs.{within}

-- the keys of pairs
abbrev pub keys_of : {K V : Type 0} → List (K × V) → List K
keys_of pairs = map (λ pair. pair.0) pairs

-- each element with the value `()`
abbrev pub in_pairs : {K : Type 0} → List K → List (K × Unit {0})
in_pairs l = map (λ x. (x, tt)) l

module _ {K : Type 0} (cmp : K → K → Ordering) where
  -- each element is smaller than every element after it
  abbrev pub IsAscending : List K → Type 0
  IsAscending [] = ⊤
  IsAscending (x ∷ xs) = AllByRecursion (λ y. cmp x y ≡ Less) xs × IsAscending xs

  -- the elements that are smaller than k, and those that are larger
  abbrev pub below : List K → K → List K
  below l k = filter (λ x. is_lt (cmp x k)) l

  abbrev pub above : List K → K → List K
  above l k = filter (λ x. is_gt (cmp x k)) l

  -- the element that equals k
  abbrev pub element_at : List K → K → Option K
  element_at l k = find (λ x. is_eq (cmp x k)) l

  -- whether there is one
  abbrev pub has : List K → K → Bool
  has l k = list_any (λ x. is_eq (cmp x k)) l

  -- the element that equals k or, if there is none, the nearest one on one side
  abbrev pub at_or_below : List K → K → Option K
  at_or_below l k = option_or (element_at l k) (last_of (below l k))

  abbrev pub at_or_above : List K → K → Option K
  at_or_above l k = option_or (element_at l k) (first_of (above l k))

  -- l with k among its elements
  abbrev pub put : List K → K → List K
  put l k = below l k ++ k ∷ above l k

  -- l without the element that equals k
  abbrev pub without : List K → K → List K
  without l k = below l k ++ above l k

  -- l without the elements within the bounds
  abbrev pub cut : List K → Bound K → Bound K → List K
  cut l low high = filter (λ x. not (within cmp low high x)) l

  -- The answer says whether the element is new. A new one is stored, and an equal one stays as it was. Or memory was refused for a new one: it comes back, and nothing changed.
  abbrev pub Inserts : List K → K → Result Bool K → List K → Type 0
  Inserts old k (Ok true) new = (has old k ≡ false) × (new ≡ put old k)
  Inserts old k (Ok false) new = (has old k ≡ true) × (new ≡ old)
  Inserts old k (Err back) new = (has old k ≡ false) × (back ≡ k) × (new ≡ old)

-- the elements that begin with the prefix, and the others
abbrev pub beginning_with : List ℕ → List (List ℕ) → List (List ℕ)
beginning_with prefix l = filter (λ x. starts_with nat_eq x prefix) l

abbrev pub not_beginning_with : List ℕ → List (List ℕ) → List (List ℕ)
not_beginning_with prefix l = filter (λ x. not (starts_with nat_eq x prefix)) l
