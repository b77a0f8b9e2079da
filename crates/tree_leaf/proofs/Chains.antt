-- Chains of linked leaves: their parts, and which leaves stand beside one.
use Rattle.tree_leaf.proofs.Common.{◌≡◌, ℕ, ◌+◌, ◌≤◌, List, [], ◌∷◌, ◌++◌, Option, Some, None, IsSome, refl, ◌∙◌, arith, Slab, get, LeafOf, times, uses, first_or, last_or, AreLinked}
use Rattle.tree_leaf.proofs.Common.{IsChain, SameArray, nat_tests}
use Rattle.tree_leaf.proofs.Counts.{times-append, times-cons, one_here, in_use, uses_same}

pub first_or-append : (xs ys : List ℕ) (after : Option ℕ) → first_or (xs ++ ys) after ≡ first_or xs (first_or ys after)
first_or-append xs ys after = grind arith

pub last_or-append : (before : Option ℕ) (xs ys : List ℕ) → last_or before (xs ++ ys) ≡ last_or (last_or before xs) ys
last_or-append before [] ys = refl
last_or-append before (x ∷ xs) ys = last_or-append (Some x) xs ys

-- the last number of a list that isn't empty stands in it, and so does the first
pub last_within : (y : ℕ) (rest : List ℕ) (n : ℕ) → last_or (Some y) rest ≡ Some n → 1 ≤ times n (y ∷ rest)
last_within y [] n is = let same : n ≡ y = cc in omega (arith, times-cons n y [], one_here n y same)
last_within y (z ∷ rest) n is = omega (arith, times-cons n y (z ∷ rest), last_within z rest n is)

pub last_inside : (xs : List ℕ) (n : ℕ) → last_or None xs ≡ Some n → 1 ≤ times n xs
last_inside [] n is = absurd (cc)
last_inside (y ∷ rest) n is = last_within y rest n is

pub first_inside : (ys : List ℕ) (n : ℕ) → first_or ys None ≡ Some n → 1 ≤ times n ys
first_inside ys n is = grind (arith, nat_tests, times-cons)

module _ {K V : Type 0} {LEN : ℕ} where
  -- the links of leaves in two lists, one behind the other, are those of each
  module _ (leaves : Slab (LeafOf K V LEN)) where
    pub linked_left : (before : Option ℕ) (xs ys : List ℕ) (after : Option ℕ) → AreLinked leaves before (xs ++ ys) after → AreLinked leaves before xs (first_or ys after)
    linked_left before [] ys after linked = tt
    linked_left before (x ∷ xs) ys after linked = (rw (first_or-append xs ys after) at linked.0, linked_left (Some x) xs ys after linked.1)

    pub linked_right : (before : Option ℕ) (xs ys : List ℕ) (after : Option ℕ) → AreLinked leaves before (xs ++ ys) after → AreLinked leaves (last_or before xs) ys after
    linked_right before [] ys after linked = linked
    linked_right before (x ∷ xs) ys after linked = linked_right (Some x) xs ys after linked.1

    pub linked_join : (before : Option ℕ) (xs ys : List ℕ) (after : Option ℕ) → AreLinked leaves before xs (first_or ys after) → AreLinked leaves (last_or before xs) ys after → AreLinked leaves before (xs ++ ys) after
    linked_join before [] ys after left right = right
    linked_join before (x ∷ xs) ys after left right = (rw (first_or-append xs ys after) left.0, linked_join (Some x) xs ys after left.1 right)

  -- leaves that stay are linked as they were
  pub linked_kept : (old new : Slab (LeafOf K V LEN)) (before : Option ℕ) (xs : List ℕ) (after : Option ℕ) → ((n : ℕ) → 1 ≤ times n xs → get new n ≡ get old n) → AreLinked old before xs after → AreLinked new before xs after
  linked_kept old new before [] after same linked = tt
  linked_kept old new before (x ∷ xs) after same linked =
      grind (arith, same x, times-cons x x xs, one_here x x refl, linked_kept old new (Some x) xs after (λ n inside. same n (omega (arith, times-cons n x xs))) linked.1)

  -- a leaf with the same array is in use alike
  pub same_array_uses : (old new : Slab (LeafOf K V LEN)) (n : ℕ) → SameArray (get old n) (get new n) → uses new n ≡ uses old n
  same_array_uses old new n same = uses_same old new n (grind arith)

  pub same_array_refl : (slot : Option (LeafOf K V LEN)) → SameArray slot slot
  same_array_refl slot = grind arith

  pub same_array_trans : (a b c : Option (LeafOf K V LEN)) → SameArray a b → SameArray b c → SameArray a c
  same_array_trans a b c first second = grind arith

  pub same_array_used : (old new : Option (LeafOf K V LEN)) → SameArray old new → IsSome old → IsSome new
  same_array_used old new same used = grind arith

  module _ (leaves : Slab (LeafOf K V LEN)) (front : List ℕ) (id : ℕ) (back : List ℕ) (chain : IsChain leaves (front ++ id ∷ back)) where
    -- a number of a chain stands in it once, and is in use
    pub counted : (n : ℕ) → times n front + times n (id ∷ back) ≤ uses leaves n
    counted n = omega (arith, chain.once n, times-append n front (id ∷ back))

    pub chain_used : IsSome (get leaves id)
    chain_used = in_use leaves id (omega (arith, counted id, times-cons id id back, one_here id id refl))

    -- the leaves beside it are those that its links name, and they are in use
    module _ (leaf : LeafOf K V LEN) (here : get leaves id ≡ Some leaf) where
      pub neighbours : (last_or None front ≡ leaf.prev) × (first_or back None ≡ leaf.next)
      neighbours = grind (arith, linked_right, chain.linked)

      pub prev_used : (n : ℕ) → leaf.prev ≡ Some n → IsSome (get leaves n)
      prev_used n is = in_use leaves n (omega (arith, counted n, last_inside front n (neighbours.0 ∙ is)))

      pub next_used : (n : ℕ) → leaf.next ≡ Some n → IsSome (get leaves n)
      next_used n is = in_use leaves n (omega (arith, counted n, times-cons n id back, first_inside back n (neighbours.1 ∙ is)))
