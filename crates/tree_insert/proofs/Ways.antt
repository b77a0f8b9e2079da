-- An insert in the leaf that a key belongs to, or under its leaf node, seen from the node where the way starts.
use Rattle.tree_insert.proofs.Common.{Arrivals, Bool, HasChildFor, InsertsUnder, IsFull, IsPart, IsSome, IsStore, IsTotalOrder, LeadsTo, None, Ok, Ordering, Result, StoreResult, TreeArenas, arith}
use Rattle.tree_insert.proofs.Common.{asks_split, child_part, false, get, leaf_used, part_on_way, room, stores, sub-one, suc, zero, ℕ, ◌-◌, ◌<◌, ◌≡◌}
use Rattle.tree_node.specs.Ways.{IsOnWay}
use Rattle.tree_insert.proofs.Inserts.{inserts_in_node, no_split}

module _ {K V : Type 0} {LEN : ℕ} {cmp : K → K → Ordering} (o : IsTotalOrder cmp) (a : TreeArenas K V LEN) (key : K) where
  -- the node over the leaf is a part
  pub node_on_way : (level : ℕ) → 0 < level → (id node : ℕ) → IsPart cmp level a id → IsOnWay cmp key (level - 1) a id node → IsPart cmp 1 a node
  node_on_way zero deep id node part way = absurd (omega (arith, deep))
  node_on_way (suc level) deep id node part way = part_on_way o a key level id node part (rw sub-one at way)

  -- and the leaf is there
  pub leaf_on_way : (level : ℕ) → 0 < level → (id node leaf : ℕ) → LeadsTo cmp key level a id node leaf → IsSome (get a.leaves leaf)
  leaf_on_way level deep id node leaf leads = leaf_used o a node leaf key (node_on_way level deep id node leads.0 leads.1) leads.2

module _ {K V : Type 0} {LEN : ℕ} {cmp : K → K → Ordering} (o : IsTotalOrder cmp) (upsert : Bool) (old new : TreeArenas K V LEN) (key : K) (val : V)
    (result : Result (StoreResult K V) (K × V)) (no_split : asks_split result ≡ false) where
  module _ (node : ℕ) (inserts : InsertsUnder cmp upsert 1 old new node result key val) where
    -- an insert under the leaf node is one under the node where its way starts
    pub inserts_at_node : (level : ℕ) → 0 < level → (id : ℕ) → IsPart cmp level old id → IsOnWay cmp key (level - 1) old id node
        → InsertsUnder cmp upsert level old new id result key val
    inserts_at_node zero deep id part way = absurd (omega (arith, deep))
    inserts_at_node (suc zero) deep id part way = rw way inserts
    inserts_at_node (suc (suc steps)) deep id part way =
        let on : IsOnWay cmp key (suc steps) old id node = rw sub-one at way in
        let below = child_part o (suc steps) old id on.0 key part on.1 None None part.stands in
        let there = inserts_at_node (suc steps) (omega arith) on.0 below (rw sub-one on.2) in
        inserts_in_node o (suc (suc steps)) deep result part on.1 (rw sub-one there) no_split

  -- and so is one in the leaf
  pub inserts_on_way : (leaf : ℕ) → InsertsUnder cmp upsert 0 old new leaf result key val → (level : ℕ) → 0 < level → (id node : ℕ) → IsPart cmp level old id
      → IsOnWay cmp key (level - 1) old id node → HasChildFor cmp key (get old.nodes node) leaf → InsertsUnder cmp upsert level old new id result key val
  inserts_on_way leaf inserts level deep id node part way which =
      let at_node = inserts_in_node o 1 (omega arith) result (node_on_way o old key level deep id node part way) which inserts no_split in
      inserts_at_node node at_node level deep id part way

-- an array that isn't full takes the pair, or has the key
pub takes_one : {K V : Type 0} (cmp : K → K → Ordering) (len : ℕ) (upsert : Bool) (old new : Arrivals K V) (key : K) (val : V) → (IsFull len old → ⊥)
    → (answer : StoreResult K V) → IsStore cmp len upsert old key val answer new → asks_split {K = K} {V = V} (Ok answer) ≡ false
takes_one cmp len upsert old new key val room answer stores = no_split answer (λ k v is. room (rw is at stores).full)
