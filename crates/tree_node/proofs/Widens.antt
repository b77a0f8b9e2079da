-- Parts between wider bounds, and children without one of them.
use Rattle.std.proofs.Common.{◌≡◌, ℕ, zero, suc, List, [], ◌∷◌, ◌++◌, Option, Some, None, arith}
use Rattle.tree_node.proofs.Words.{IsTotalOrder, AllLarger, all_map, AllByRecursion, Less, Ordering, TreeArenas, AreParted, IsAbove, IsBelow, IsUpTo, Stands}
use Rattle.tree_node.proofs.Lists.{all_middle}
use Rattle.tree_node.proofs.Standing.{node_kept}
use Rattle.tree_node.proofs.Walks.{above_next, up_to_next}

-- a separator below another is below what that is below
pub below_next : {K : Type 0} {cmp : K → K → Ordering} (o : IsTotalOrder cmp) (high : Option K) (k s : K) → IsBelow cmp k (Some s) → IsBelow cmp s high → IsBelow cmp k high
below_next o high k s p q = grind (arith, o.trans)

-- what is between the first two bounds is between the others
record IsWider {K : Type 0} (cmp : K → K → Ordering) (low high low' high' : Option K) : Type 0 where
  above : (k : K) → IsAbove cmp low k → IsAbove cmp low' k
  up_to : (k : K) → IsUpTo cmp k high → IsUpTo cmp k high'
  below : (k : K) → IsBelow cmp k high → IsBelow cmp k high'

-- children are parted between wider bounds
parted_wider : {K : Type 0} (cmp : K → K → Ordering) (Child : Option K → ℕ → Option K → Type 0)
    → ((low low' : Option K) (id : ℕ) (high high' : Option K) → IsWider cmp low high low' high' → Child low id high → Child low' id high')
    → (low low' : Option K) (pairs : List (K × ℕ)) (last : ℕ) (high high' : Option K) → IsWider cmp low high low' high'
    → AreParted cmp Child low pairs last high → AreParted cmp Child low' pairs last high'
parted_wider cmp Child each low low' [] last high high' wider parted = each low low' last high high' wider parted
parted_wider cmp Child each low low' (c ∷ rest) last high high' wider parted = grind (arith, parted_wider cmp Child each (Some c.0) (Some c.0) rest last high high')

module _ {K V : Type 0} {LEN : ℕ} (cmp : K → K → Ordering) where
  stands_between : (level : ℕ) (a : TreeArenas K V LEN) (low low' : Option K) (id : ℕ) (high high' : Option K)
      → IsWider cmp low high low' high' → Stands cmp level a low id high → Stands cmp level a low' id high'
  stands_between zero a low low' id high high' wider s = grind (arith, parted_wider, all_map, node_kept)
  stands_between (suc level) a low low' id high high' wider s = grind (arith, parted_wider, all_map, node_kept, stands_between level a)

  -- a part stands without bounds
  pub stands_free : (level : ℕ) (a : TreeArenas K V LEN) (low : Option K) (id : ℕ) (high : Option K)
      → Stands cmp level a low id high → Stands cmp level a None id None
  stands_free level a low id high s = stands_between level a low None id high None (record { above = λ k h. tt; up_to = λ k h. tt; below = λ k h. tt }) s

module _ {K V : Type 0} {LEN : ℕ} {cmp : K → K → Ordering} (o : IsTotalOrder cmp) where
  -- a part above a separator is above what that is above
  pub stands_wider : (level : ℕ) (a : TreeArenas K V LEN) (low : Option K) (s : K) (id : ℕ) (high : Option K) → IsAbove cmp low s → Stands cmp level a (Some s) id high → Stands cmp level a low id high
  stands_wider level a low s id high under =
      stands_between cmp level a (Some s) low id high high (record { above = λ k h. above_next o low s k under h; up_to = λ k h. h; below = λ k h. h })

  -- and one up to a separator is below what that is below
  pub stands_higher : (level : ℕ) (a : TreeArenas K V LEN) (low : Option K) (id : ℕ) (s : K) (high : Option K) → IsBelow cmp s high → Stands cmp level a low id (Some s) → Stands cmp level a low id high
  stands_higher level a low id s high over =
      stands_between cmp level a low low id (Some s) high (record { above = λ k h. h; up_to = λ k h. up_to_next o high s k over h; below = λ k h. below_next o high k s h over })

module _ {K : Type 0} {cmp : K → K → Ordering} (o : IsTotalOrder cmp) (Child : Option K → ℕ → Option K → Type 0) where
  -- the children are parted without one of them
  pub parted_without : ((low : Option K) (s : K) (id : ℕ) (high : Option K) → IsAbove cmp low s → Child (Some s) id high → Child low id high)
      → (low : Option K) (before : List (K × ℕ)) (s : K) (x : ℕ) (after : List (K × ℕ)) (last : ℕ) (high : Option K)
      → AreParted cmp Child low (before ++ (s, x) ∷ after) last high → AreParted cmp Child low (before ++ after) last high
  parted_without widens low [] s x [] last high parted = widens low s last high parted.1 parted.3
  parted_without widens low [] s x (c ∷ rest) last high (_, above, _, parted) = grind (arith, above_next)
  parted_without widens low (c ∷ rest) s x after last high parted = (parted.0, parted.1, parted.2, parted_without widens (Some c.0) rest s x after last high parted.3)

  -- and with the last keyed one in the place of the unbounded one
  pub parted_moved : ((low : Option K) (id : ℕ) (s : K) (high : Option K) → IsBelow cmp s high → Child low id (Some s) → Child low id high)
      → (low : Option K) (before : List (K × ℕ)) (s : K) (x : ℕ) (last : ℕ) (high : Option K) → AreParted cmp Child low (before ++ (s, x) ∷ []) last high → AreParted cmp Child low before x high
  parted_moved widens low [] s x last high parted = widens low x s high parted.2 parted.0
  parted_moved widens low (c ∷ rest) s x last high parted = (parted.0, parted.1, parted.2, parted_moved widens (Some c.0) rest s x last high parted.3)

  -- separators ascend
  pub separators_above : (low : Option K) (pairs : List (K × ℕ)) (last : ℕ) (high : Option K) → AreParted cmp Child low pairs last high → AllByRecursion (λ c. IsAbove cmp low c.0) pairs
  separators_above low [] last high parted = tt
  separators_above low (c ∷ rest) last high parted = grind (arith, above_next, all_map, separators_above (Some c.0) rest last high parted.3)

  -- those before one are smaller, and those behind it larger
  pub separators_around : (low : Option K) (before : List (K × ℕ)) (s : K) (x : ℕ) (after : List (K × ℕ)) (last : ℕ) (high : Option K)
      → AreParted cmp Child low (before ++ (s, x) ∷ after) last high → AllByRecursion (λ c. cmp c.0 s ≡ Less) before × AllLarger cmp s after
  separators_around low [] s x after last high parted = (tt, separators_above (Some s) after last high parted.3)
  separators_around low (c ∷ rest) s x after last high parted =
      let later = separators_around (Some c.0) rest s x after last high parted.3 in
      let all = separators_above (Some c.0) (rest ++ (s, x) ∷ after) last high parted.3 in
      ((all_middle (λ (d : K × ℕ). cmp c.0 d.0 ≡ Less) rest (s, x) after all, later.0), later.1)
