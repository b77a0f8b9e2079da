-- What the test of packed trees says, and how deep a packed tree is.
use Rattle.std.proofs.Common.{◌≡◌, ◌⊎◌, ℕ, zero, suc, ◌<◌, ◌≤◌, ◌==◌, ◌^◌, Bool, true, List, [], ◌∷◌, length, Option, Some, None, refl, sym, arith, inl, inr, not, Ordering}
use Rattle.tree_split.proofs.Common.{and_parts, eq-eqb, eqb-true, lt-leb, both_true, root_at, AllByRecursion, TreeArenas, Unchanged, all_yes, cases_Bool, found_keyed, get, nat_tests, walk, walk_under, unchanged_agrees, IsPacked, all_full, packed_at, packed_under, packed_bound, same_packed}
use Rattle.tree_node.specs.Whole.{depth_of}
use Rattle.tree_node.specs.declared.node.Root.{Root}

-- there are some of them
any : (n : ℕ) → (not (n == 0) ≡ true → 0 < n) × (0 < n → not (n == 0) ≡ true)
any n = (λ so. grind (arith, nat_tests), λ some. grind (arith, nat_tests))

-- tests that say yes together are one
same_tests : (x y : Bool) → (x ≡ true → y ≡ true) → (y ≡ true → x ≡ true) → x ≡ y
same_tests x y there back = grind (arith, cases_Bool x, cases_Bool y)

full_from : {K : Type 0} (size_of : ℕ → ℕ) (size : ℕ) (pairs : List (K × ℕ)) → all_full size_of size pairs ≡ true → AllByRecursion (λ c. size_of c.1 ≡ size) pairs
full_from size_of size [] so = tt
full_from size_of size (c ∷ rest) so = grind (arith, nat_tests, eqb-true, and_parts, full_from size_of size rest)

full_to : {K : Type 0} (size_of : ℕ → ℕ) (size : ℕ) (pairs : List (K × ℕ)) → AllByRecursion (λ c. size_of c.1 ≡ size) pairs → all_full size_of size pairs ≡ true
full_to size_of size [] full = refl
full_to size_of size (c ∷ rest) full = both_true (eq-eqb (size_of c.1) size full.0) (full_to size_of size rest full.1)

module _ {K V : Type 0} {LEN : ℕ} (cmp : K → K → Ordering) where
  -- a part that passes the test is packed, and the other way round
  packed_from : (level : ℕ) (a : TreeArenas K V LEN) (id : ℕ) → packed_at cmp level a id ≡ true → IsPacked cmp None level a id
  packed_from zero a id so = grind (arith, nat_tests)
  packed_from (suc level) a id so = grind (arith, nat_tests, full_from, all_yes, and_parts, packed_from level a)

  packed_to : (level : ℕ) (a : TreeArenas K V LEN) (id : ℕ) → IsPacked cmp None level a id → packed_at cmp level a id ≡ true
  packed_to zero a id e = rw e.here (both_true e.packed ((any (length e.leaf.array.entries)).1 e.ends))
  packed_to (suc level) a id e = grind (arith, nat_tests, full_to, both_true, packed_to level a e.last e.edge)

  -- a root that passes it is packed, and has a keyed child from depth 2 on
  pub root_from : (a : TreeArenas K V LEN) (id level : ℕ) → packed_under cmp a (Some (root_at id level)) ≡ true → IsPacked cmp None level a id × (1 < level → 0 < found_keyed (get a.nodes id))
  root_from a id level so = grind (arith, nat_tests, and_parts, lt-leb, packed_from)

  pub root_to : (a : TreeArenas K V LEN) (id level : ℕ) → IsPacked cmp None level a id → (1 < level → 0 < found_keyed (get a.nodes id)) → packed_under cmp a (Some (root_at id level)) ≡ true
  root_to a id level packed some = both_true (packed_to level a id packed) (grind (arith, nat_tests, some))

  -- a tree in which nothing changed is packed as it was
  pub packed_unchanged : (a b : TreeArenas K V LEN) (root : Option Root) → Unchanged a b → packed_under cmp b root ≡ packed_under cmp a root
  packed_unchanged a b None same = refl
  packed_unchanged a b (Some root) same = same_tests (packed_under cmp b (Some root)) (packed_under cmp a (Some root)) (kept b a (record { leaves = λ n. sym (same.leaves n); nodes = λ n. sym (same.nodes n) })) (kept a b same)
    where
      kept : (a b : TreeArenas K V LEN) → Unchanged a b → packed_under cmp a (Some root) ≡ true → packed_under cmp b (Some root) ≡ true
      kept a b same so =
          let is = root_from a root.id root.level so in
          root_to b root.id root.level (same_packed cmp None root.level a b root.id (unchanged_agrees root.level a b same root.id) is.0) (λ deep. rw (same.nodes root.id) (is.1 deep))

  -- a packed tree of two levels or more has more pairs than fit into a keyed child of its root
  pub packed_depth : (a : TreeArenas K V LEN) (root : Option Root) → packed_under cmp a root ≡ true → (depth_of root ≤ 1) ⊎ (LEN ^ depth_of root < length (walk_under a root))
  packed_depth a None so = inl (omega arith)
  packed_depth a (Some root) so = let is = root_from a root.id root.level so in by_level root.level is.0 is.1
    where
      by_level : (level : ℕ) → IsPacked cmp None level a root.id → (1 < level → 0 < found_keyed (get a.nodes root.id)) → (level ≤ 1) ⊎ (LEN ^ level < length (walk level a root.id))
      by_level zero e some = inl (omega arith)
      by_level (suc zero) e some = inl (omega arith)
      by_level (suc (suc level)) e some = inr (packed_bound cmp (suc level) a root.id e (rw e.here at (some (omega arith))))
