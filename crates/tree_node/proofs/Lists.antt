-- Lists of lists.
use Rattle.std.proofs.Common.{◌≡◌, ℕ, ◌<◌, ◌≤◌, List, [], ◌∷◌, ◌++◌, Option, Some, length, slice_get, inl, inr, refl, ◌∙◌, flat_map, arith}
use Rattle.tree_node.proofs.Words.{slice_get_cases, AllByRecursion, flat_map-append}

module _ {X : Type 0} where
  pub all_yes : {P : X → Type 0} → ((x : X) → P x) → (xs : List X) → AllByRecursion P xs
  all_yes f [] = tt
  all_yes f (x ∷ xs) = (f x, all_yes f xs)

  pub flat_map-flat_map : {Y Z : Type 0} (f : Y → List Z) (g : X → List Y) (xs : List X) → flat_map f (flat_map g xs) ≡ flat_map (λ x. flat_map f (g x)) xs
  flat_map-flat_map f g [] = refl
  flat_map-flat_map f g (x ∷ xs) = rw (flat_map-append f (g x) (flat_map g xs), flat_map-flat_map f g xs) refl

  pub flat_map-three : {Y : Type 0} (f : X → List Y) (xs ys zs : List X) → flat_map f (xs ++ (ys ++ zs)) ≡ flat_map f xs ++ (flat_map f ys ++ flat_map f zs)
  flat_map-three f xs ys zs = rw (flat_map-append f xs, flat_map-append f ys) refl

  pub flat_map_same : {Y : Type 0} (f g : X → List Y) (xs : List X) → AllByRecursion (λ x. f x ≡ g x) xs → flat_map f xs ≡ flat_map g xs
  flat_map_same f g [] h = refl
  flat_map_same f g (x ∷ xs) h = rw (h.0, flat_map_same f g xs h.1) refl

  -- what holds of all holds of one between others
  pub all_middle : (P : X → Type 0) (front : List X) (x : X) (back : List X) → AllByRecursion P (front ++ x ∷ back) → P x
  all_middle P [] x back each = each.0
  all_middle P (y ∷ front) x back each = all_middle P front x back each.1

  -- something is found before the end of a list
  pub found_within : (xs : List X) (found : Option X) (n place : ℕ) → found ≡ slice_get xs n → ((x : X) → found ≡ Some x → ⊥) → place < length xs → n ≤ place → ⊥
  found_within xs found n place is none within early = elim (slice_get_cases xs n).1 [ inl there ↦ none there.0 (is ∙ there.2) | inr past ↦ omega (arith, past.0, within, early) ]
