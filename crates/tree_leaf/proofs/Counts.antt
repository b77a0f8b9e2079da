-- Counts of numbers in lists, and of their uses.
use Rattle.tree_leaf.proofs.Common.{◌≡◌, ℕ, ◌+◌, ◌≤◌, ◌==◌, cond, List, [], ◌∷◌, ◌++◌, None, is_some, IsSome, refl, arith, nat_tests, sum_by-append, sum_by-cons, Slab}
use Rattle.tree_leaf.proofs.Common.{get}
use Rattle.tree_leaf.specs.Counting.{times, uses}

pub times-nil : (n : ℕ) → times n [] ≡ 0
unfolding times
times-nil n = refl

pub times-append : (n : ℕ) (xs ys : List ℕ) → times n (xs ++ ys) ≡ times n xs + times n ys
unfolding times
times-append n xs ys = sum_by-append (λ x. cond (x == n) 1 0) xs ys

pub times-cons : (n x : ℕ) (xs : List ℕ) → times n (x ∷ xs) ≡ cond (x == n) 1 0 + times n xs
unfolding times
times-cons n x xs = sum_by-cons (λ x. cond (x == n) 1 0) x xs

-- a number is the head of a list that begins with it, and no other number is
pub one_here : (n id : ℕ) → n ≡ id → cond {A = ℕ} (id == n) 1 0 ≡ 1
one_here n id same = grind (arith, nat_tests)

pub none_here : (n id : ℕ) → (n ≡ id → ⊥) → cond {A = ℕ} (id == n) 1 0 ≡ 0
none_here n id differs = grind (arith, nat_tests)

module _ {T : Type 0} where
  -- a number is in use once or not at all
  pub uses_le_one : (arena : Slab T) (n : ℕ) → uses arena n ≤ 1
  unfolding uses
  uses_le_one arena n = grind arith

  -- what is counted as used is in use
  pub in_use : (arena : Slab T) (n : ℕ) → 1 ≤ uses arena n → IsSome (get arena n)
  unfolding uses
  in_use arena n used = grind arith

  pub uses_some : (arena : Slab T) (n : ℕ) → IsSome (get arena n) → uses arena n ≡ 1
  unfolding uses
  uses_some arena n used = rw used refl

  pub uses_none : (arena : Slab T) (n : ℕ) → get arena n ≡ None → uses arena n ≡ 0
  unfolding uses
  uses_none arena n free = rw free refl

  -- two arenas in which the number is in use alike
  pub uses_same : (old new : Slab T) (n : ℕ) → is_some (get new n) ≡ is_some (get old n) → uses new n ≡ uses old n
  unfolding uses
  uses_same old new n same = rw same refl
