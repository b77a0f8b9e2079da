-- The way down from a node by the unbounded children: its nodes are different ones, one at each level.
use Rattle.std.proofs.Common.{◌≡◌, ℕ, zero, suc, ◌+◌, ◌<◌, ◌≤◌, List, [], ◌∷◌, length, Option, Some, None, unwrap_or, inl, inr, refl, ap, arith, Ordering}
use Rattle.tree_node.proofs.Common.{IsRetired, NodeOf, Slab, Stands, StandsOrRetired, TreeArenas, cases_eq, get, last_free, none_here, times, times-cons, times-nil, unbounded, uses, uses_some, slab_len, nat_tests, once_fits}
use Rattle.tree_node.specs.Depth.{last_node}
use Rattle.tree_node.proofs.Levels.{stands_not_retired}

-- the unbounded child under a number
abbrev last_of : {K : Type 0} {LEN : ℕ} → Option (NodeOf K LEN) → ℕ
last_of None = 0
last_of (Some node) = unwrap_or (unbounded node) 0

abbrev down : {K : Type 0} {LEN : ℕ} → ℕ → Slab (NodeOf K LEN) → ℕ → List ℕ
down zero nodes id = []
down (suc level) nodes id = id ∷ down level nodes (last_of (get nodes id))

down_length : {K : Type 0} {LEN : ℕ} (level : ℕ) (nodes : Slab (NodeOf K LEN)) (id : ℕ) → length (down level nodes id) ≡ level
down_length zero nodes id = refl
down_length (suc level) nodes id = ap suc (down_length level nodes (last_of (get nodes id)))

module _ {K V : Type 0} {LEN : ℕ} (cmp : K → K → Ordering) (a : TreeArenas K V LEN) where
  -- the unbounded child stands
  last_stands : (level : ℕ) (id : ℕ) → Stands cmp (suc level) a None id None → Stands cmp level a None (last_of (get a.nodes id)) None
  last_stands level id s = rw (s.here, s.last_is) (last_free cmp level a None id None s)

  -- a node stands at one level alone
  one_level : (l m : ℕ) (id : ℕ) → Stands cmp (suc l) a None id None → Stands cmp (suc m) a None id None → l ≡ m
  one_level zero m id s t = grind arith
  one_level (suc l) zero id s t = grind arith
  one_level (suc l) (suc m) id s t = ap suc (one_level l m (last_of (get a.nodes id)) (last_stands (suc l) id s) (last_stands (suc m) id t))

  -- a number on the way down is that of one node that stands lower
  on_the_way : (level : ℕ) (id : ℕ) → Stands cmp level a None id None → (n : ℕ)
      → (times n (down level a.nodes id) ≤ 1) × (1 ≤ times n (down level a.nodes id) → (l : ℕ) × (l < level) × Stands cmp (suc l) a None n None)
  on_the_way zero id s n = (omega (arith, times-nil n), λ inside. absurd (omega (arith, inside, times-nil n)))
  on_the_way (suc level) id s n =
      let rest : List ℕ = down level a.nodes (last_of (get a.nodes id)) in
      let lower = on_the_way level (last_of (get a.nodes id)) (last_stands level id s) n in
      let again : n ≡ id → 1 ≤ times n rest → ⊥ = λ same inside. let found = lower.1 inside in omega (arith, found.1, one_level found.0 level n found.2 (rw same s)) in (
        grind (arith, nat_tests, times-cons n id rest, lower.0, again),
        λ inside. elim (cases_eq n id) [
          | inl same ↦ (level, omega arith, rw same s)
          | inr differs ↦ let found = lower.1 (omega (arith, inside, times-cons n id rest, none_here n id differs)) in (found.0, omega (arith, found.1), found.2)
        ],
      )

  -- there are as many nodes as levels
  level_fits : (level : ℕ) (id : ℕ) → Stands cmp level a None id None → level ≤ slab_len a.nodes
  level_fits level id s = omega (arith, once_fits a.nodes (down level a.nodes id) once, down_length level a.nodes id)
    where
      once : (n : ℕ) → times n (down level a.nodes id) ≤ uses a.nodes n
      once n = let found = on_the_way level id s n in let used = λ (inside : 1 ≤ times n (down level a.nodes id)). (found.1 inside).2.here in grind (arith, found.0, used, uses_some a.nodes n)

  -- So many levels are counted on the way down, which goes on to a node that stands below, or ends. A retired node has no way down.
  abbrev pub Counts : (level id count : ℕ) → Option ℕ → Type 0
  Counts level id count None = (Stands cmp level a None id None → count ≡ level) × (IsRetired level a id → count ≡ 1)
  Counts level id count (Some at) = Stands cmp level a None id None × (left : ℕ) × (count + suc left ≡ level) × Stands cmp (suc left) a None at None × (level ≤ slab_len a.nodes)

  -- with the node that the way has come to
  pub counts_on : (level id count left at : ℕ) → 0 < level → Stands cmp level a None id None → count + left ≡ level → Stands cmp (suc left) a None at None
      → (node : NodeOf K LEN) → get a.nodes at ≡ Some node → Counts level id count (last_node node)
  counts_on level id count zero at inner s sum t node here = let not = stands_not_retired cmp a id level inner s in grind arith
  counts_on level id count (suc left) at inner s sum t node here =
      let is : last_node node ≡ Some t.last = grind arith in
      rw is (s, left, sum, last_free cmp (suc left) a None at None t, level_fits level id s)

  pub starts : (level id : ℕ) → 0 < level → StandsOrRetired cmp level a id → (node : NodeOf K LEN) → get a.nodes id ≡ Some node → Counts level id 1 (last_node node)
  starts zero id inner given node here = absurd (omega (arith, inner))
  starts (suc level) id inner (inl s) node here = counts_on (suc level) id 1 level id inner s (omega arith) s node here
  starts (suc level) id inner (inr retired) node here = let not = λ (s : Stands cmp (suc level) a None id None). stands_not_retired cmp a id (suc level) inner s retired in grind arith
