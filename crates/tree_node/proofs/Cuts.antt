-- A list cut at a place.
use Rattle.std.proofs.Common.{◌≡◌, ℕ, ◌+◌, List, [], ◌∷◌, ◌++◌, take, drop, slice_get, Some, add-one, sym, ap, ◌∙◌, Ordering, Less, take-append-drop}
use Rattle.tree_node.proofs.Words.{AllByRecursion, IsAscending, drop_more, get_or_from_slice_get, slice_get_within}
use Rattle.tree_array.proofs.Dealt.{one_more}

module _ {X : Type 0} where
  -- what holds of all holds of those before the cut, and of those behind it
  pub all_front : (P : X → Type 0) (xs ys : List X) → AllByRecursion P (xs ++ ys) → AllByRecursion P xs
  all_front P [] ys all = tt
  all_front P (x ∷ xs) ys all = (all.0, all_front P xs ys all.1)

  pub all_behind : (P : X → Type 0) (xs ys : List X) → AllByRecursion P (xs ++ ys) → AllByRecursion P ys
  all_behind P [] ys all = all
  all_behind P (x ∷ xs) ys all = all_behind P xs ys all.1

  module _ (xs : List X) (place : ℕ) (x : X) (there : slice_get xs place ≡ Some x) where
    from_place : drop place xs ≡ x ∷ drop (place + 1) xs
    from_place = cc (drop_more xs place x (slice_get_within xs place x there), get_or_from_slice_get xs place x x there)

    -- the list is what is before the place, the element there, and what is behind it
    pub cut_whole : xs ≡ take place xs ++ (x ∷ drop (place + 1) xs)
    cut_whole = sym (take-append-drop place xs) ∙ ap (λ rest. take place xs ++ rest) from_place

    pub cut_with : take (place + 1) xs ≡ take place xs ++ x ∷ []
    cut_with = rw add-one (one_more place xs x (drop (place + 1) xs) from_place).0

module _ {K V : Type 0} (cmp : K → K → Ordering) where
  -- the parts of an ascending list ascend
  pub ascending_front : (xs ys : List (K × V)) → IsAscending cmp (xs ++ ys) → IsAscending cmp xs
  ascending_front [] ys all = tt
  ascending_front (x ∷ xs) ys all = (all_front _ xs ys all.0, ascending_front xs ys all.1)

  pub ascending_behind : (xs ys : List (K × V)) → IsAscending cmp (xs ++ ys) → IsAscending cmp ys
  ascending_behind [] ys all = all
  ascending_behind (x ∷ xs) ys all = ascending_behind xs ys all.1

  -- and the first are smaller than the one at the cut
  pub smaller_front : (xs : List (K × V)) (pair : K × V) (ys : List (K × V)) → IsAscending cmp (xs ++ (pair ∷ ys)) → AllByRecursion (λ p. cmp p.0 pair.0 ≡ Less) xs
  smaller_front [] pair ys all = tt
  smaller_front (x ∷ xs) pair ys all = ((all_behind _ xs (pair ∷ ys) all.0).0, smaller_front xs pair ys all.1)
