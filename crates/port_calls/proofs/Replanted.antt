-- A retired node that becomes a leaf node over an empty leaf.
use Rattle.tree_insert.proofs.Common.{Gains, HasKind, LeafOf, NodeOf, None, Ordering, Slab, Some, Stands, TreeArenas, [], arith}
use Rattle.tree_insert.proofs.Common.{get, in_order, keyed, leaves_at, over_one, refl, spare_at_least, unbounded, ℕ, ◌-◌, ◌∷◌, ◌≡◌, ◌≢◌}
use Rattle.port_calls.specs.Replanted.{Replants}
use Rattle.tree_leaf.proofs.Additions.{alone}

module _ {K V : Type 0} {LEN : ℕ} (cmp : K → K → Ordering) (old new : TreeArenas K V LEN) (id last : ℕ) (node : NodeOf K LEN) (leaf : LeafOf K V LEN)
    (here : get new.nodes id ≡ Some node) (kind : HasKind 0 node) (no_keyed : (keyed node).entries ≡ []) (last_is : unbounded node ≡ Some last)
    (before : Slab (LeafOf K V LEN)) (gains : Gains before new.leaves last leaf) (array : leaf.array ≡ in_order []) (no_prev : leaf.prev ≡ None) (no_next : leaf.next ≡ None)
    (was_free : get old.leaves last ≡ None) (other_nodes : (n : ℕ) → n ≢ id → get new.nodes n ≡ get old.nodes n)
    (other_leaves : (n : ℕ) → n ≢ last → get new.leaves n ≡ get old.leaves n) where
  leaves_are : leaves_at 1 new.nodes id ≡ last ∷ []
  leaves_are = rw (here, no_keyed, last_is) refl

  stands : Stands cmp 1 new None id None
  stands = over_one cmp new id node last here kind no_keyed last_is
      (record { leaf = leaf; here = gains.updates.changed; few = rw array (omega arith); ascending = rw array tt; above = rw array tt; up_to = rw array tt })

  pub replants : Replants cmp old new id
  replants = record {
    pairs = rw (leaves_are, gains.updates.changed, array) refl;
    stands = stands;
    leaf = last;
    was_free = was_free;
    leaves = leaves_are;
    chain = alone before new.leaves last leaf gains no_prev no_next;
    unused = rw (leaves_are, gains.updates.changed, array) (omega (arith, spare_at_least LEN 0 (LEN - 0)));
    nodes_kept = other_nodes;
    leaves_kept = other_leaves;
  }
