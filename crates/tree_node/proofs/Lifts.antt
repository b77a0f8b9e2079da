-- A change of some children of a node is a change of the part under the node.
use Rattle.std.proofs.Common.{◌≡◌, ℕ, suc, ◌+◌, ◌≤◌, ◌==◌, cond, min, List, [], ◌∷◌, ◌++◌, None, is_some, IsSome, refl, ap, ◌∙◌, arith, append_assoc, flat_map, Ordering}
use Rattle.tree_node.proofs.Common.{Agrees, AllByRecursion, IsPart, NodeOf, Replaces, Slab, Stands, Stay, TreeArenas, agree_each, all_middle, all_stand, children_of, get, in_use, leaves_at, leaves_of, nodes_at, nodes_of, one_here, same_array_refl, spare, stay, times, times-append, times-cons, uses, uses_le_one, uses_same, uses_some, walk, walk-children, flat_map-three, nat_tests}
use Rattle.tree_node.proofs.Beside.{apart_from_fewer}
use Rattle.tree_node.proofs.Spares.{spare_split, spares, spares_same}
pub use Rattle.tree_node.proofs.Frames.{single_leaves, single_nodes}

pub grouped_as : (a b c d e : List ℕ) → a ++ ((b ++ (c ++ d)) ++ e) ≡ (a ++ b) ++ (c ++ (d ++ e))
grouped_as a b c d e = simp append_assoc

-- a part has each of its leaves once
pub leaves_once_in : {K V : Type 0} {LEN : ℕ} {cmp : K → K → Ordering} (level : ℕ) (a : TreeArenas K V LEN) (id : ℕ) → IsPart cmp level a id → (n : ℕ) → times n (leaves_at level a.nodes id) ≤ uses a.leaves n
leaves_once_in level a id part n = grind (arith, nat_tests, times-append)

-- how often a number stands in three lists
abbrev three : ℕ → List ℕ → List ℕ → List ℕ → ℕ
three n xs ys zs = times n xs + (times n ys + times n zs)

times_three : (n : ℕ) (xs ys zs : List ℕ) → times n (xs ++ (ys ++ zs)) ≡ three n xs ys zs
times_three n xs ys zs = rw (times-append n xs, times-append n ys) refl

-- the numbers under a node whose children are these
module _ {K : Type 0} {LEN : ℕ} (level : ℕ) (nodes : Slab (NodeOf K LEN)) (id : ℕ) (front ids back : List ℕ) (was : children_of nodes id ≡ front ++ (ids ++ back)) where
  pub leaves_are : leaves_at (suc level) nodes id ≡ leaves_of level nodes front ++ (leaves_of level nodes ids ++ leaves_of level nodes back)
  leaves_are = rw (was, flat_map-three (leaves_at level nodes) front ids back) refl

  pub node_times : (n : ℕ) → times n (nodes_at (suc level) nodes id)
      ≡ cond (id == n) 1 0 + (times n (nodes_of level nodes front) + (times n (nodes_of level nodes ids) + times n (nodes_of level nodes back)))
  node_times n = rw (times-cons n id, was, flat_map-three (nodes_at level nodes) front ids back, times_three n) refl

-- what a node has whose children `ids` have become `ids'`
pub record Lifted {K V : Type 0} {LEN : ℕ} (level : ℕ) (old mid new : TreeArenas K V LEN) (id : ℕ) (front ids ids' back : List ℕ) : Type 0 where
  pub fronts : AllByRecursion (λ x. Agrees level old new x) front
  pub backs : AllByRecursion (λ x. Agrees level old new x) back
  pub changed : AllByRecursion (λ x. Agrees level mid new x) ids'
  pub replaces : Replaces (suc level) old new (id ∷ []) (id ∷ [])
  pub walk_was : walk (suc level) old id ≡ flat_map (walk level old) front ++ (flat_map (walk level old) ids ++ flat_map (walk level old) back)
  pub walk_now : walk (suc level) new id ≡ flat_map (walk level old) front ++ (flat_map (walk level mid) ids' ++ flat_map (walk level old) back)
  pub spare_was : spare (suc level) old id ≡ min (spares level old front) (min (spares level old ids) (spares level old back))
  pub spare_now : spare (suc level) new id ≡ min (spares level old front) (min (spares level mid ids') (spares level old back))

-- the children `ids` have become `ids'`, and then at most the node itself was written
module _ {K V : Type 0} {LEN : ℕ} (level : ℕ) (old mid new : TreeArenas K V LEN) (id : ℕ) (front ids ids' back : List ℕ)
    (r : Replaces level old mid ids ids')
    (was : children_of old.nodes id ≡ front ++ (ids ++ back))
    (now : children_of new.nodes id ≡ front ++ (ids' ++ back))
    (nodes_once : (n : ℕ) → times n (nodes_at (suc level) old.nodes id) ≤ uses old.nodes n)
    (leaves_once : (n : ℕ) → times n (leaves_at (suc level) old.nodes id) ≤ uses old.leaves n)
    (others : (n : ℕ) → (n ≡ id → ⊥) → get new.nodes n ≡ get mid.nodes n)
    (here : IsSome (get new.nodes id))
    (leaves : new.leaves ≡ mid.leaves) where
  nodes_few : (n : ℕ) → cond (id == n) 1 0 + three n (nodes_of level old.nodes front) (nodes_of level old.nodes ids) (nodes_of level old.nodes back)
      ≤ uses old.nodes n
  nodes_few n = rw (node_times level old.nodes id front ids back was n) at (nodes_once n)

  leaves_few : (n : ℕ) → three n (leaves_of level old.nodes front) (leaves_of level old.nodes ids) (leaves_of level old.nodes back) ≤ uses old.leaves n
  leaves_few n = rw (leaves_are level old.nodes id front ids back was, times_three n) at (leaves_once n)

  -- the other children stay, since the node isn't under one of its children
  siblings_agree : (xs : List ℕ)
      → ((n : ℕ) → times n (nodes_of level old.nodes xs) ≤ times n (nodes_of level old.nodes front) + times n (nodes_of level old.nodes back))
      → ((n : ℕ) → times n (leaves_of level old.nodes xs) ≤ times n (leaves_of level old.nodes front) + times n (leaves_of level old.nodes back))
      → AllByRecursion (λ x. Agrees level old new x) xs
  siblings_agree xs nodes_among leaves_among =
      agree_each level old new xs
      (λ m below.
      let few : 1 + (cond (id == m) 1 0 + times m (nodes_of level old.nodes ids)) ≤ uses old.nodes m = omega (arith, nodes_few m, nodes_among m) in
      others m (λ same. omega (arith, few, uses_le_one old.nodes m, one_here m id same))
      ∙ r.nodes_kept m (in_use old.nodes m (omega (arith, few))) (omega (arith, few, uses_le_one old.nodes m)))
      (λ m below.
      let few : 1 + times m (leaves_of level old.nodes ids) ≤ uses old.leaves m = omega (arith, leaves_few m, leaves_among m) in
      rw leaves (r.leaves_kept m (in_use old.leaves m (omega (arith, few))) (omega (arith, few, uses_le_one old.leaves m))))

  pub front_agrees : AllByRecursion (λ x. Agrees level old new x) front
  front_agrees = siblings_agree front (λ n. omega arith) (λ n. omega arith)

  pub back_agrees : AllByRecursion (λ x. Agrees level old new x) back
  back_agrees = siblings_agree back (λ n. omega arith) (λ n. omega arith)

  -- the changed children aren't above themselves either
  changed_agree : AllByRecursion (λ x. Agrees level mid new x) ids'
  changed_agree =
      agree_each level mid new ids'
      (λ m below. others m (λ same. omega (arith, nodes_few m, uses_le_one old.nodes m, uses_le_one mid.nodes m, r.nodes_counted m, one_here m id same)))
      (λ m below. rw leaves (same_array_refl (get mid.leaves m)))

  stays : Stay level old new front × Stay level mid new ids' × Stay level old new back
  stays = (stay level old new front front_agrees, stay level mid new ids' changed_agree, stay level old new back back_agrees)

  -- so many times a number stood under the node, and stands there
  nodes_was : (n : ℕ) → times n (nodes_of (suc level) old.nodes (id ∷ []))
      ≡ cond (id == n) 1 0 + three n (nodes_of level old.nodes front) (nodes_of level old.nodes ids) (nodes_of level old.nodes back)
  nodes_was n = ap (times n) (single_nodes (suc level) old.nodes id) ∙ node_times level old.nodes id front ids back was n

  leaves_was : leaves_of (suc level) old.nodes (id ∷ []) ≡ leaves_of level old.nodes front ++ (leaves_of level old.nodes ids ++ leaves_of level old.nodes back)
  leaves_was = single_leaves (suc level) old.nodes id ∙ leaves_are level old.nodes id front ids back was

  leaves_now : leaves_of (suc level) new.nodes (id ∷ []) ≡ leaves_of level old.nodes front ++ (leaves_of level mid.nodes ids' ++ leaves_of level old.nodes back)
  leaves_now =
      single_leaves (suc level) new.nodes id
      ∙ leaves_are level new.nodes id front ids' back now ∙ rw (stays.0.leaves, stays.1.leaves, stays.2.leaves) refl

  -- the written node was in use, and is
  uses_counted : (n : ℕ) → uses new.nodes n + times n (nodes_of level old.nodes ids) ≡ uses old.nodes n + times n (nodes_of level mid.nodes ids')
  uses_counted n =
      let same_elsewhere = λ (differs : n ≡ id → ⊥). uses_same mid.nodes new.nodes n (ap is_some (others n differs)) in
      grind (arith, nat_tests, same_elsewhere, uses_some new.nodes id here, one_here n id, nodes_few n, uses_le_one old.nodes n, uses_le_one mid.nodes n, r.nodes_counted n)

  -- the part under the node has become the part under the node
  pub lifted : Replaces (suc level) old new (id ∷ []) (id ∷ [])
  lifted = record {
    nodes_kept = λ n used outside.
        others n (λ same. omega (arith, nodes_was n, one_here n id same, outside)) ∙ r.nodes_kept n used (omega (arith, nodes_was n, outside));
    leaves_kept = λ n used outside. rw leaves (r.leaves_kept n used (fewer n outside));
    links_kept = λ n leaf apart. rw leaves (r.links_kept n leaf (apart_from_fewer old.leaves _ (leaves_of level old.nodes ids) fewer n leaf apart));
    nodes_counted = λ n.
        let times_now = rw (stays.0.nodes, stays.1.nodes, stays.2.nodes) at (node_times level new.nodes id front ids' back now n) in
        omega (arith, uses_counted n, nodes_was n, ap (times n) (single_nodes (suc level) new.nodes id), times_now);
    leaves_counted = λ n. rw (leaves, leaves_was, leaves_now, times_three n, times_three n) (omega (arith, r.leaves_counted n));
    chained = λ before after chain.
        let inner = rw (leaves_was, grouped_as before) at chain in
        rw (leaves, leaves_now, grouped_as before) (r.chained (before ++ leaves_of level old.nodes front) (leaves_of level old.nodes back ++ after) inner);
  }
    where
      fewer : (m : ℕ) → times m (leaves_of (suc level) old.nodes (id ∷ [])) ≡ 0 → times m (leaves_of level old.nodes ids) ≡ 0
      fewer m outside = let none = rw (leaves_was, times_three m) at outside in omega arith

  pub lifts : Lifted level old mid new id front ids ids' back
  lifts = record {
    fronts = front_agrees;
    backs = back_agrees;
    changed = changed_agree;
    replaces = lifted;
    walk_was = rw (walk-children level old id, was, flat_map-three (walk level old) front ids back) refl;
    walk_now = rw (walk-children level new id, now, flat_map-three (walk level new) front ids' back, stays.0.walks, stays.1.walks, stays.2.walks) refl;
    spare_was = spare_split level old id front ids back was;
    spare_now =
        spare_split level new id front ids' back now
        ∙ rw (spares_same level old new front front_agrees, spares_same level mid new ids' changed_agree, spares_same level old new back back_agrees) refl;
  }

-- one child of a node
module _ {K V : Type 0} {LEN : ℕ} {cmp : K → K → Ordering} (level : ℕ) (old : TreeArenas K V LEN) (id : ℕ) (part : IsPart cmp (suc level) old id) (front : List ℕ) (child : ℕ) (back : List ℕ)
    (was : children_of old.nodes id ≡ front ++ (child ∷ [] ++ back)) where
  -- the child is a part itself
  pub child_is_part : Stands cmp level old None child None → IsPart cmp level old child
  child_is_part stands = record {
    stands = stands;
    nodes_once = λ n. omega (arith, part.nodes_once n, node_times level old.nodes id front (child ∷ []) back was n, ap (times n) (single_nodes level old.nodes child));
    front = part.front ++ leaves_of level old.nodes front;
    back = leaves_of level old.nodes back ++ part.back;
    chain = rw (← single_leaves level old.nodes child, ← grouped_as part.front, ← leaves_are level old.nodes id front (child ∷ []) back was) part.chain;
  }

  pub child_placed : IsPart cmp level old child
  child_placed =
      let all = rw was at (all_stand cmp level old None id None part.stands) in
      child_is_part (all_middle (λ x. Stands cmp level old None x None) front child back all)

  -- the node stays while its child is changed or dropped
  pub node_stays : (new : TreeArenas K V LEN) (ids : List ℕ) → Replaces level old new (child ∷ []) ids → get new.nodes id ≡ get old.nodes id
  node_stays new ids r =
      r.nodes_kept id (rw part.stands.here refl)
      (omega (arith, node_times level old.nodes id front (child ∷ []) back was id, one_here id id refl, part.nodes_once id, uses_le_one old.nodes id))

  -- and the part under it has become what it is with the child as it is now
  pub child_lifts : (new : TreeArenas K V LEN) → Replaces level old new (child ∷ []) (child ∷ [])
      → Lifted level old new new id front (child ∷ []) (child ∷ []) back
  child_lifts new r =
      let same = node_stays new (child ∷ []) r in
      lifts level old new new id front (child ∷ []) (child ∷ []) back r was (rw same was) part.nodes_once (leaves_once_in (suc level) old id part)
      (λ n differs. refl) (rw (same, part.stands.here) refl) refl
