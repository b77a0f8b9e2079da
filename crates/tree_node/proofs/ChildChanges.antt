-- The child that a key belongs to is changed and keeps its number: what that makes of the part under the node.
use Rattle.std.proofs.Common.{◌≡◌, ℕ, suc, ◌≤◌, min, List, [], ◌∷◌, ◌++◌, Option, Some, refl, ◌∙◌, inl, inr, flat_map, Ordering, append-nil}
use Rattle.tree_node.proofs.Common.{Agrees, AllByRecursion, AreParted, HasChildFor, IsAbove, IsPart, IsTotalOrder, IsUpTo, KeepsBounds, Replaces, Stands, TreeArenas, all-append, back_at, cases_Bool, child_at, child_is, children_are, children_of, front_at, get, is_from, keyed, leaves_at, less_from_test, node_kept, parted_map, spare, stands_each, times, upto_from_test, uses, walk}
use Rattle.tree_node.proofs.Lifts.{Lifted, child_lifts, child_placed, leaves_once_in, node_stays}
use Rattle.tree_node.proofs.Spares.{spares, spares-single}

module _ {K : Type 0} {cmp : K → K → Ordering} (o : IsTotalOrder cmp) (A B : Option K → ℕ → Option K → Type 0) (k : K) where
  -- the children stay parted where the key's child stays between its bounds, if the key is between them, and each other child stays
  parted_changed : (low : Option K) (pairs : List (K × ℕ)) (last : ℕ) (high : Option K) → AreParted cmp A low pairs last high
      → AllByRecursion (λ x. (low high : Option K) → A low x high → B low x high) (front_at (is_from cmp k) pairs)
      → ((low high : Option K) → IsAbove cmp low k → IsUpTo cmp k high → A low (child_at (is_from cmp k) pairs last) high → B low (child_at (is_from cmp k) pairs last) high)
      → AllByRecursion (λ x. (low high : Option K) → A low x high → B low x high) (back_at (is_from cmp k) pairs last)
      → IsAbove cmp low k → IsUpTo cmp k high → AreParted cmp B low pairs last high
  parted_changed low [] last high parted front child back above up_to = child low high above up_to parted
  parted_changed low (c ∷ rest) last high parted front child back above up_to = elim (cases_Bool (is_from cmp k c.0)) [
    | inl from ↦
        let first = (rw from at child) low (Some c.0) above (upto_from_test o c.0 k from) parted.0 in
        (first, parted.1, parted.2, parted_map cmp A B (Some c.0) rest last high (rw from at back) parted.3)
    | inr past ↦
        let others = rw past at front in
        let later = parted_changed (Some c.0) rest last high parted.3 others.1 (rw past at child) (rw past at back) (less_from_test o c.0 k past) up_to in
        (others.0 low (Some c.0) parted.0, parted.1, parted.2, later)
  ]

module _ {K V : Type 0} {LEN : ℕ} {cmp : K → K → Ordering} (o : IsTotalOrder cmp) (level : ℕ) (old : TreeArenas K V LEN) (id child : ℕ) (k : K)
    (part : IsPart cmp (suc level) old id) (which : HasChildFor cmp k (get old.nodes id) child) where
  pub leaves_once : (n : ℕ) → times n (leaves_at (suc level) old.nodes id) ≤ uses old.leaves n
  leaves_once = leaves_once_in (suc level) old id part

  -- at some bounds of the node
  module _ (low high : Option K) (s : Stands cmp (suc level) old low id high) where
    abbrev pub front : List ℕ
    front = front_at (is_from cmp k) (keyed s.node).entries

    abbrev pub back : List ℕ
    back = back_at (is_from cmp k) (keyed s.node).entries s.last

    pub was : children_of old.nodes id ≡ front ++ (child ∷ [] ++ back)
    was = children_are o level old low id high s k child which

    -- the child is a part itself
    pub child_part : IsPart cmp level old child
    child_part = child_placed level old id part front child back was

    module _ (new : TreeArenas K V LEN) (replaces : Replaces level old new (child ∷ []) (child ∷ [])) where
      pub same_node : get new.nodes id ≡ get old.nodes id
      same_node = node_stays level old id part front child back was new (child ∷ []) replaces

      pub now : children_of new.nodes id ≡ front ++ (child ∷ [] ++ back)
      now = rw same_node was

      lift : Lifted level old new new id front (child ∷ []) (child ∷ []) back
      lift = child_lifts level old id part front child back was new replaces

      pub fronts : AllByRecursion (λ x. Agrees level old new x) front
      fronts = lift.fronts

      pub node_replaces : Replaces (suc level) old new (id ∷ []) (id ∷ [])
      node_replaces = lift.replaces

      pub old_walk : walk (suc level) old id ≡ flat_map (walk level old) front ++ (walk level old child ++ flat_map (walk level old) back)
      old_walk = rw (lift.walk_was, append-nil (walk level old child)) refl

      pub new_walk : walk (suc level) new id ≡ flat_map (walk level old) front ++ (walk level new child ++ flat_map (walk level old) back)
      new_walk = rw (lift.walk_now, append-nil (walk level new child)) refl

      -- the node stands where the child does if the key is between the bounds
      pub node_stands : ((low high : Option K) → IsAbove cmp low k → IsUpTo cmp k high → Stands cmp level old low child high → Stands cmp level new low child high)
          → IsAbove cmp low k → IsUpTo cmp k high → Stands cmp (suc level) new low id high
      node_stands keeps above up_to =
          node_kept s same_node
          (parted_changed o (Stands cmp level old) (Stands cmp level new) k low _ _ high s.parted (stands_each cmp level old new front fronts)
          (rw (child_is o level old low id high s k child which) at keeps) (stands_each cmp level old new back lift.backs) above up_to)

      -- and where the child keeps all its bounds
      pub node_keeps : KeepsBounds cmp level old new child → Stands cmp (suc level) new low id high
      node_keeps keeps =
          let each = all-append _ front (child ∷ back) (stands_each cmp level old new front fronts) (keeps, stands_each cmp level old new back lift.backs) in
          node_kept s same_node (parted_map cmp (Stands cmp level old) (Stands cmp level new) low _ _ high (rw (← was, s.here, s.last_is) at each) s.parted)

      -- the room of the other leaves stays
      pub old_spare : spare (suc level) old id ≡ min (spares level old front) (min (spare level old child) (spares level old back))
      old_spare = lift.spare_was ∙ rw (spares-single level old child) refl

      pub new_spare : spare (suc level) new id ≡ min (spares level old front) (min (spare level new child) (spares level old back))
      new_spare = lift.spare_now ∙ rw (spares-single level new child) refl
