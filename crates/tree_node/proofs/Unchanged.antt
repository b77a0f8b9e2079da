-- What stands under every number is what it was: so is each part, and each chain.
use Rattle.std.proofs.Common.{◌≡◌, ℕ, List, [], ◌∷◌, None, is_some, refl, ap, ◌∙◌, Ordering, arith}
use Rattle.tree_node.proofs.Common.{Agrees, IsChain, IsPart, LeafOf, Replaces, Slab, TreeArenas, Unchanged, all_yes, get, held, room, same_array_refl, same_stands, stay, uses_same, KeepsBoth, linked_kept}
use Rattle.tree_node.proofs.Steps.{part_after}

-- a chain depends on what stands under its numbers
pub chain_same : {K V : Type 0} {LEN : ℕ} (s t : Slab (LeafOf K V LEN)) → ((n : ℕ) → get t n ≡ get s n) → (ids : List ℕ) → IsChain s ids → IsChain t ids
chain_same s t same ids chain = record { once = λ n. rw (uses_same s t n (ap is_some (same n))) (chain.once n); linked = linked_kept s t None ids None (λ n inside. same n) chain.linked }

module _ {K V : Type 0} {LEN : ℕ} where
  -- places that were reserved change nothing
  pub unchanged_by_keeping : (old new : TreeArenas K V LEN) → KeepsBoth old new → Unchanged old new
  unchanged_by_keeping old new keeps = record { leaves = λ n. rw keeps.leaves.slots refl; nodes = λ n. rw keeps.nodes.slots refl }

  pub unchanged_trans : (a b c : TreeArenas K V LEN) → Unchanged a b → Unchanged b c → Unchanged a c
  unchanged_trans a b c first second = record { leaves = λ n. second.leaves n ∙ first.leaves n; nodes = λ n. second.nodes n ∙ first.nodes n }

  module _ (level : ℕ) (old new : TreeArenas K V LEN) (same : Unchanged old new) where
    pub unchanged_agrees : (id : ℕ) → Agrees level old new id
    unchanged_agrees id = record { nodes = λ n below. same.nodes n; leaves = λ n below. rw (same.leaves n) (same_array_refl (get old.leaves n)) }

    pub unchanged_replaces : (ids : List ℕ) → Replaces level old new ids ids
    unchanged_replaces ids = let stays = stay level old new ids (all_yes unchanged_agrees ids) in record {
      nodes_kept = λ n used outside. same.nodes n;
      leaves_kept = λ n used outside. rw (same.leaves n) (same_array_refl (get old.leaves n));
      links_kept = λ n leaf apart. same.leaves n ∙ apart.here;
      nodes_counted = λ n. rw (stays.nodes, uses_same old.nodes new.nodes n (ap is_some (same.nodes n))) refl;
      leaves_counted = λ n. rw (stays.leaves, uses_same old.leaves new.leaves n (ap is_some (same.leaves n))) refl;
      chained = λ front back chain. rw stays.leaves (chain_same old.leaves new.leaves same.leaves _ chain);
    }

    pub unchanged_part : (cmp : K → K → Ordering) (id : ℕ) → IsPart cmp level old id → IsPart cmp level new id
    unchanged_part cmp id part =
        part_after cmp level old new id part (same_stands cmp level old new id (unchanged_agrees id) None None part.stands) (unchanged_replaces (id ∷ []))

  pub unchanged_room : (level : ℕ) (old new : TreeArenas K V LEN) → Unchanged old new → (id : ℕ) → room level new id ≡ room level old id
  unchanged_room level old new same id = grind (arith, same.leaves id, same.nodes id)

  pub unchanged_held : (level : ℕ) (old new : TreeArenas K V LEN) → Unchanged old new → (id : ℕ) → held level new id ≡ held level old id
  unchanged_held level old new same id = grind (arith, same.leaves id, same.nodes id)
