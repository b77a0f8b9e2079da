-- Two changes of a part, one after the other.
use Rattle.std.proofs.Common.{◌≡◌, ℕ, List, [], ◌∷◌, None, IsSome, ◌∙◌, arith, Ordering}
use Rattle.tree_node.proofs.Common.{IsPart, Replaces, Stands, TreeArenas, get, in_use, leaves_of, single_leaves, single_nodes, times, uses_le_one, uses_some, same_array_trans}
use Rattle.tree_node.proofs.Beside.{apart_after}

module _ {K V : Type 0} {LEN : ℕ} where
  pub replaces_trans : (level : ℕ) (a b c : TreeArenas K V LEN) (xs ys zs : List ℕ) → Replaces level a b xs ys → Replaces level b c ys zs → Replaces level a c xs zs
  replaces_trans level a b c xs ys zs first second = record {
    nodes_kept = λ n used outside.
        let same = first.nodes_kept n used outside in
        second.nodes_kept n (rw same used) (omega (arith, first.nodes_counted n, outside, uses_some a.nodes n used, uses_le_one b.nodes n)) ∙ same;
    leaves_kept = λ n used outside.
        let still = still_outside n used outside in
        same_array_trans _ _ _ (first.leaves_kept n used outside) (second.leaves_kept n still.0 still.1);
    links_kept = λ n leaf apart. second.links_kept n leaf (apart_after a.leaves b.leaves _ _ still_outside n leaf (first.links_kept n leaf apart) apart);
    nodes_counted = λ n. omega (arith, first.nodes_counted n, second.nodes_counted n);
    leaves_counted = λ n. omega (arith, first.leaves_counted n, second.leaves_counted n);
    chained = λ front back chain. second.chained front back (first.chained front back chain);
  }
    where
      still_outside : (m : ℕ) → IsSome (get a.leaves m) → times m (leaves_of level a.nodes xs) ≡ 0 → IsSome (get b.leaves m) × (times m (leaves_of level b.nodes ys) ≡ 0)
      still_outside m used outside =
          let once = uses_some a.leaves m used in
          (in_use b.leaves m (omega (arith, first.leaves_counted m)), omega (arith, first.leaves_counted m, uses_le_one b.leaves m))

  -- a part that doesn't change
  pub replaces_refl : (level : ℕ) (a : TreeArenas K V LEN) (xs : List ℕ) → Replaces level a a xs xs
  replaces_refl level a xs = grind arith

module _ {K V : Type 0} {LEN : ℕ} (cmp : K → K → Ordering) (level : ℕ) where
  -- what has become of a part is one, if it stands
  pub part_after : (old new : TreeArenas K V LEN) (id : ℕ) → IsPart cmp level old id → Stands cmp level new None id None → Replaces level old new (id ∷ []) (id ∷ []) → IsPart cmp level new id
  part_after old new id part stands r = grind (arith, single_leaves, single_nodes)
