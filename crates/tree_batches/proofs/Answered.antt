-- What a key's leaf says of the whole tree.
use Rattle.std.proofs.Common.{◌≡◌, ℕ, List, [], Option, None, Some, IsSome, map, refl, sym, ◌∙◌, arith, Ordering}
use Rattle.std.proofs.lemmas.Simd.{map-map}
use Rattle.std.specs.Borrow.{Bor}
use Rattle.tree_batches.specs.Batches.{HasFound, IsEmpty, LeafUnder}
use Rattle.tree_batches.specs.declared.batch.Batch.{Batch}
use Rattle.tree_model.specs.Pairs.{Finds}
use Rattle.tree_model.specs.Rest.{lent}
use Rattle.tree_model.proofs.Common.{pair_at}
use Rattle.tree_node.proofs.Common.{IsAbsent, IsTop, IsTotalOrder, TreeArenas, get, leaf_entries, walk_under}
use Rattle.tree_node.specs.declared.node.Root.{Root}
use Rattle.tree_node.proofs.Found.{found_in_leaf}
use Rattle.tree_node.proofs.Levels.{retired_walk}

pub none_under : {K V : Type 0} {LEN : ℕ} (cmp : K → K → Ordering) (a : TreeArenas K V LEN) (key : K) (root : Option Root) → IsTop cmp a root → LeafUnder cmp a root key None → walk_under a root ≡ []
none_under cmp a key None top none = refl
none_under cmp a key (Some root) top retired = retired_walk a root.id root.level top.0 retired

module _ {K V : Type 0} {LEN : ℕ} {cmp : K → K → Ordering} (o : IsTotalOrder cmp) (a : TreeArenas K V LEN) (key : K) where
  -- without a leaf there is no pair
  pub absent_under : (root : Option Root) → IsTop cmp a root → LeafUnder cmp a root key None → IsAbsent cmp (walk_under a root) key
  absent_under root top none = rw (none_under cmp a key root top none) refl

  -- a leaf has the pair that the tree has
  pub found_under : (root : Option Root) (leaf : ℕ) → IsTop cmp a root → LeafUnder cmp a root key (Some leaf)
      → IsSome (get a.leaves leaf) × (pair_at cmp (walk_under a root) key ≡ pair_at cmp (leaf_entries a.leaves leaf) key)
  found_under None leaf top found = absurd (grind arith)
  found_under (Some root) leaf top is = (is.here, found_in_leaf o a key root.level root.id leaf is)

-- what is shown of a pair is what was found
pub shows_found : {K V : Type 0} (cmp : K → K → Ordering) (l : List (K × V)) (key : K) (found : Option (Bor K × Bor V)) → Finds cmp l key found → lent found ≡ pair_at cmp l key
shows_found cmp l key None absent = sym absent
shows_found cmp l key (Some pair) here = sym here

-- a batch that is empty has what a batch keeps
pub empty_kept : {Q X Y : Type 0} (seen : X → Y) (answer : Q → Y) (keys : List Q) (batch : Batch X) → IsEmpty batch → HasFound seen answer keys batch
empty_kept seen answer keys batch is = record {
  begun = omega (arith, is.start, is.answered);
  within = omega (arith, is.end, is.answered);
  inside = omega (arith, is.end);
  few = omega (arith, is.end);
  long = is.long;
  each = λ k d e low high. absurd (omega (arith, is.end, high));
}

-- answers by keys in another form are those by the keys
pub answers_mapped : {Q K A Y : Type 0} (shown : A → Y) (find : K → A) (key : Q → K) (keys : List Q) → map (λ lent. shown (find (key lent))) keys ≡ map shown (map find (map key keys))
answers_mapped shown find key keys = sym (map-map shown find (map key keys) ∙ map-map (λ k. shown (find k)) key keys)
