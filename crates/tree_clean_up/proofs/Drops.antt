-- Numbers that are freed, and parts that are dropped.
use Rattle.tree_clean_up.proofs.Common.{FreesIn, HasChildIn, IsChain, IsRetiredNode, IsSome, LeafOf, List, Loses, NodeOf, None, Option, Replaces, Slab, Some, TreeArenas, [], ap, append_assoc}
use Rattle.tree_clean_up.proofs.Common.{arith, cond, get, is_some, leaves_at, leaves_of, linked_kept, nat_tests, no_children, nodes_at, nodes_of, one_here, refl, same_array_refl, same_array_uses}
use Rattle.tree_clean_up.proofs.Common.{single_leaves, single_nodes, suc, times, times-append, times-cons, times-nil, uses, uses_le_one, uses_none, uses_same, uses_some, ℕ, ◌++◌, ◌+◌, ◌==◌, ◌∙◌}
use Rattle.tree_clean_up.proofs.Common.{◌∷◌, ◌≡◌, ◌≤◌}
use Rattle.tree_leaf.proofs.Chains.{neighbours}
use Rattle.tree_leaf.proofs.Splices.{untouched_leaf}
use Rattle.tree_leaf.specs.Links.{Splices, Unlinks}
use Rattle.tree_node.proofs.Beside.{apart_from_fewer, not_before, not_behind}

-- one was in use, and the others are in use as they were
pub lost_counted : {T : Type 0} (old new : Slab T) (id : ℕ) (value : T) → Loses old new id value → (n : ℕ) → uses new n + cond (id == n) 1 0 ≡ uses old n
lost_counted old new id value loses n =
    let elsewhere = λ (differs : n ≡ id → ⊥). uses_same old new n (ap is_some (loses.updates.others n differs)) in
    grind (arith, nat_tests, elsewhere, uses_none new id loses.updates.changed, uses_some old id (rw loses.here refl))

module _ {T : Type 0} {s t : Slab T} where
  -- what is freed after some numbers is freed with them
  pub frees_both : {u : Slab T} {xs ys : List ℕ} → FreesIn s t xs → FreesIn t u ys → FreesIn s u (xs ++ ys)
  frees_both {xs = xs} {ys = ys} first second = record {
    kept = λ n none. second.kept n (omega (arith, none, times-append n xs ys)) ∙ first.kept n (omega (arith, none, times-append n xs ys));
    counted = λ n. omega (arith, times-append n xs ys, first.counted n, second.counted n);
  }

  pub frees_lost : {id : ℕ} {value : T} → Loses s t id value → FreesIn s t (id ∷ [])
  frees_lost {id} {value} loses = record {
    kept = λ n none. loses.updates.others n (λ same. omega (arith, none, times-cons n id [], one_here n id same));
    counted = λ n. omega (arith, lost_counted s t id value loses n, times-cons n id [], times-nil n);
  }

  pub frees_none : t ≡ s → FreesIn s t []
  frees_none same = record { kept = λ n none. rw same refl; counted = λ n. rw same (omega (arith, times-nil n)) }

-- a node that has a child in a slot is there
pub has_node : {K : Type 0} {LEN : ℕ} (found : Option (NodeOf K LEN)) (slot : Option ℕ) → HasChildIn found slot → IsSome found
has_node None slot has = absurd has
has_node (Some node) slot has = refl

module _ {K V : Type 0} {LEN : ℕ} (level : ℕ) (old new : TreeArenas K V LEN) (id : ℕ) (node : NodeOf K LEN) (retired : IsRetiredNode (get old.nodes id))
    (loses : Loses old.nodes new.nodes id node) (leaves : new.leaves ≡ old.leaves) where
  -- the part that it was is no part any more
  pub node_dropped : Replaces (suc level) old new (id ∷ []) []
  node_dropped =
      let itself : nodes_of (suc level) old.nodes (id ∷ []) ≡ id ∷ [] = rw (no_children (get old.nodes id) retired).1 refl in
      let no_leaf : leaves_of (suc level) old.nodes (id ∷ []) ≡ [] = rw (no_children (get old.nodes id) retired).1 refl in
      let frees = frees_lost loses in
      record {
        nodes_kept = λ n used outside. frees.kept n (rw itself at outside);
        leaves_kept = λ n used outside. rw leaves (same_array_refl (get old.leaves n));
        links_kept = λ n leaf apart. rw leaves apart.here;
        nodes_counted = λ n. rw itself (omega (arith, frees.counted n, times-nil n));
        leaves_counted = λ n. rw (no_leaf, leaves) refl;
        chained = λ front back chain. rw leaves (rw no_leaf at chain);
      }

-- a part whose leaves are spliced out of their chain, and whose numbers are freed
module _ {K V : Type 0} {LEN : ℕ} (level : ℕ) {old mid new : TreeArenas K V LEN} (id first last : ℕ) (after before : List ℕ) {leaf_first leaf_last : LeafOf K V LEN}
    (from_first : leaves_at level old.nodes id ≡ first ∷ after) (to_last : leaves_at level old.nodes id ≡ before ++ last ∷ [])
    (first_here : get old.leaves first ≡ Some leaf_first) (last_here : get old.leaves last ≡ Some leaf_last)
    (splices : Splices old mid leaf_first.prev leaf_last.next) (nodes_freed : FreesIn old.nodes new.nodes (nodes_at level old.nodes id))
    (leaves_freed : FreesIn mid.leaves new.leaves (leaves_at level old.nodes id)) where
  -- the part is no part any more
  pub part_dropped : (front back : List ℕ) → IsChain old.leaves (front ++ (leaves_at level old.nodes id ++ back)) → Replaces level old new (id ∷ []) []
  part_dropped front back chain =
      let begins : 1 ≤ times first (leaves_at level old.nodes id) = omega (arith, ap (times first) from_first, times-cons first first after, one_here first first refl) in
      let ends : 1 ≤ times last (leaves_at level old.nodes id) =
      omega (arith, ap (times last) to_last, times-append last before (last ∷ []), times-cons last last [], one_here last last refl) in
      let nodes : FreesIn old.nodes new.nodes (nodes_of level old.nodes (id ∷ [])) = rw (single_nodes level old.nodes id) nodes_freed in
      let leaves : FreesIn mid.leaves new.leaves (leaves_of level old.nodes (id ∷ [])) = rw (single_leaves level old.nodes id) leaves_freed in
      let same_uses = λ (n : ℕ). same_array_uses old.leaves mid.leaves n (splices.kept n) in
      record {
        nodes_kept = λ n used outside. nodes.kept n outside;
        leaves_kept = λ n used outside. rw (leaves.kept n outside) (splices.kept n);
        links_kept = λ n leaf apart.
            let here = apart_from_fewer old.leaves (leaves_of level old.nodes (id ∷ [])) (leaves_at level old.nodes id) (λ m outside. rw single_leaves at outside) n leaf apart in
            leaves.kept n apart.outside
            ∙ untouched_leaf _ _ _ _ _ splices.next_changed splices.prev_changed n
            (not_before old.leaves n leaf apart.here front first (after ++ back) (by_first front back chain) leaf_first first_here (leaves_at level old.nodes id) begins here)
            (not_behind old.leaves n leaf apart.here (front ++ before) last back (by_last front back chain) leaf_last last_here (leaves_at level old.nodes id) ends here)
            ∙ apart.here;
        nodes_counted = λ n. omega (arith, nodes.counted n, times-nil n);
        leaves_counted = λ n. omega (arith, leaves.counted n, times-nil n, same_uses n);
        chained = λ front back given.
            let chain : IsChain old.leaves (front ++ (leaves_at level old.nodes id ++ back)) = rw (single_leaves level old.nodes id) at given in
            let around : IsChain mid.leaves (front ++ back) =
            splices.chained front (leaves_at level old.nodes id) back (neighbours old.leaves front first (after ++ back) (by_first front back chain) leaf_first first_here).0
            (neighbours old.leaves (front ++ before) last back (by_last front back chain) leaf_last last_here).1 chain in
            let once : (n : ℕ) → times n (front ++ back) + times n (leaves_of level old.nodes (id ∷ [])) ≤ uses mid.leaves n =
            λ n. rw (single_leaves level old.nodes id) (omega (arith, chain.once n, times-append n, same_uses n)) in
            record {
              once = λ n. omega (arith, once n, leaves.counted n);
              linked = linked_kept mid.leaves new.leaves None (front ++ back) None
                  (λ n inside. leaves.kept n (omega (arith, inside, once n, uses_le_one mid.leaves n))) around.linked;
            };
      }
    where
      by_first : (front back : List ℕ) → IsChain old.leaves (front ++ (leaves_at level old.nodes id ++ back)) → IsChain old.leaves (front ++ first ∷ (after ++ back))
      by_first front back chain = rw from_first at chain

      by_last : (front back : List ℕ) → IsChain old.leaves (front ++ (leaves_at level old.nodes id ++ back)) → IsChain old.leaves ((front ++ before) ++ last ∷ back)
      by_last front back chain =
          let split : front ++ (leaves_at level old.nodes id ++ back) ≡ (front ++ before) ++ last ∷ back = rw to_last (simp append_assoc) in
          rw split at chain

-- so a leaf that is unlinked and taken out
pub leaf_dropped : {K V : Type 0} {LEN : ℕ} (old mid new : TreeArenas K V LEN) (id : ℕ) (leaf : LeafOf K V LEN) (unlinks : Unlinks old mid id)
    → Loses mid.leaves new.leaves id leaf → new.nodes ≡ mid.nodes → (front back : List ℕ) → IsChain old.leaves (front ++ id ∷ back) → Replaces 0 old new (id ∷ []) []
leaf_dropped old mid new id leaf unlinks loses nodes =
    part_dropped 0 id id id [] [] refl refl unlinks.here unlinks.here unlinks.splices (frees_none (nodes ∙ unlinks.splices.nodes)) (frees_lost loses)
