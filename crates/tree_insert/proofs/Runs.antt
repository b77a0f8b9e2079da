-- An array in the emptied last leaf: it is what its pairs make that are appended one after another.
use Rattle.tree_insert.proofs.Common.{Arrivals, HasChildFor, HasMadeRoom, InsertsUnder, IsPart, IsRetired, IsSome, IsStore, IsTotalOrder, LeafOf, List, New, None, Ok, Ordering, Some, TreeArenas}
use Rattle.tree_insert.proofs.Common.{Unchanged, [], ap, arith, get, here_now, in_order, inl, inr, leaf_spent, leaf_used, length, length-append, old_spare, part_after, refl, room, suc}
use Rattle.tree_insert.proofs.Common.{sym, true, unchanged_replaces, walk, with_array, zero, ℕ, ◌++◌, ◌<◌, ◌∙◌, ◌∷◌, ◌≡◌, ◌≤◌, ◌⊎◌}
use Rattle.tree_insert.proofs.AppendCommon.{AppendsEach, AppendsUnder, EndsEdge, IsAscending, IsLastFor, IsOnEdge, append_assoc, leaf_entries, set-set, smaller_front, walk-leaf}
use Rattle.tree_insert.proofs.Edges.{larger_there, no_last}
use Rattle.tree_insert.proofs.Stored.{AtEnd, appended, appends_there, at_end}
use Rattle.tree_array.proofs.Runs.{in_order_stores}
use Rattle.tree_split.specs.Lasts.{IsEmptied}
use Rattle.tree_insert.proofs.LeafNodes.{room_stored}
use Rattle.tree_insert.proofs.Retries.{IsFullBelow, part_with_room, retried}

still : {K V : Type 0} {LEN : ℕ} (a : TreeArenas K V LEN) → Unchanged a a
still a = record { leaves = λ n. refl; nodes = λ n. refl }

module _ {K V : Type 0} {LEN : ℕ} {cmp : K → K → Ordering} (o : IsTotalOrder cmp) (a : TreeArenas K V LEN) (id leaf : ℕ) (key : K) (val : V)
    (part : IsPart cmp 1 a id) (which : HasChildFor cmp key (get a.nodes id) leaf) (none : room 0 a leaf ≡ 0) where
  -- the leaf is full, as an insert would find it
  full_leaf : IsFullBelow cmp true 1 a a id leaf key val key val
  full_leaf = record {
    which = which;
    crowded = none;
    same = still a;
    absent = λ inserts_only. absurd (cc);
    same_key = refl;
    same_val = refl;
    spent = λ many. omega (arith, old_spare o 0 a id leaf key part which None None part.stands a (unchanged_replaces 0 a a (still a) (leaf ∷ [])), leaf_spent a leaf none many);
    part = part;
  }

  -- room was made, and this leaf has it
  module _ (made : TreeArenas K V LEN) (roomy : HasMadeRoom cmp 1 a made id key) (home : ℕ) (goes : HasChildFor cmp key (get made.nodes id) home) where
    pub part_made : IsPart cmp 1 made id
    part_made = part_with_room full_leaf (omega arith) roomy

    -- and the pair is stored there
    pub appended_home : (slot : LeafOf K V LEN) → get made.leaves home ≡ Some slot → (array : Arrivals K V) → IsStore cmp LEN true slot.array key val New array → InsertsUnder cmp true 1 a (with_array made home slot array) id (Ok New) key val
    appended_home slot there array stores =
        retried full_leaf (omega arith) roomy (Ok New) (room_stored o home key val part_made goes there array refl stores (roomy.child home goes))

-- the second of two writes of a leaf's array is the one that counts
array_again : {K V : Type 0} {LEN : ℕ} (a : TreeArenas K V LEN) (id : ℕ) (leaf : LeafOf K V LEN) (first second : Arrivals K V) → with_array (with_array a id leaf first) id (record leaf { array = first }) second ≡ with_array a id leaf second
array_again {K} {V} {LEN} a id leaf first second =
    ap (λ slots. record a { leaves = record a.leaves { slots = slots } }) (set-set a.leaves.slots id (Some (record leaf { array = first })) (Some (record leaf { array = second })))

module _ {K V : Type 0} {LEN : ℕ} {cmp : K → K → Ordering} (o : IsTotalOrder cmp) (level : ℕ) (deep : 0 < level) (id leaf : ℕ) where
  -- The last leaf of `a` has an array of these pairs, and one more makes an append to what was before. So do the others behind it.
  pub each_appended : (more done : List (K × V)) (pair : K × V) (before a new : TreeArenas K V LEN) (slot : LeafOf K V LEN) → get a.leaves leaf ≡ Some slot → new ≡ with_array a leaf slot (in_order (done ++ pair ∷ more))
      → IsPart cmp level before id → IsAscending cmp (walk level before id ++ pair ∷ more) → length (done ++ pair ∷ more) ≤ LEN
      → AppendsUnder cmp level before (with_array a leaf slot (in_order (done ++ pair ∷ []))) id leaf pair.0 pair.1 → AppendsEach cmp level before new id leaf (pair ∷ more)
  each_appended [] done pair before a new slot was is part ascending few appends = rw is appends
  each_appended (next ∷ more) done pair before a new slot was is part ascending few appends =
      let array : Arrivals K V = in_order (done ++ pair ∷ []) in
      let mid : TreeArenas K V LEN = with_array a leaf slot array in
      let slot' : LeafOf K V LEN = record slot { array = array } in
      let was' : get mid.leaves leaf ≡ Some slot' = here_now a leaf slot array was in
      let regroup : done ++ pair ∷ (next ∷ more) ≡ (done ++ pair ∷ []) ++ next ∷ more = sym (append_assoc done (pair ∷ []) (next ∷ more)) in
      let new_is : new ≡ with_array mid leaf slot' (in_order ((done ++ pair ∷ []) ++ next ∷ more)) =
      is ∙ ap (λ (pairs : List (K × V)). with_array a leaf slot (in_order pairs)) regroup ∙ sym (array_again a leaf slot array (in_order ((done ++ pair ∷ []) ++ next ∷ more))) in
      let part' : IsPart cmp level mid id = part_after cmp level before mid id part (appends.inserts.stands None None tt tt part.stands) appends.inserts.replaces in
      let ascending' : IsAscending cmp (walk level mid id ++ next ∷ more) = rw (appends.pairs, append_assoc (walk level before id) (pair ∷ []) (next ∷ more)) ascending in
      let for : IsLastFor cmp level mid id leaf next.0 =
      record { deep = deep; part = part'; last = appends.last; beyond = smaller_front cmp (walk level mid id) next more ascending' } in
      let larger = larger_there o mid leaf for.last.1 next.0 level None id part'.stands for.last.0 for.beyond in
      let counts : length ((done ++ pair ∷ []) ++ next ∷ more) ≡ length (done ++ pair ∷ (next ∷ more)) = ap length (sym regroup) in
      let small : length (done ++ pair ∷ []) < LEN = omega (arith, few, counts, length-append (done ++ pair ∷ []) (next ∷ more)) in
      let stores = in_order_stores cmp LEN (done ++ pair ∷ []) next.0 next.1 (rw (walk-leaf mid leaf slot' was') at larger) small in
      let later = appended o mid leaf slot' (in_order ((done ++ pair ∷ []) ++ next ∷ [])) next.0 next.1 was' stores for in
      (mid, appends, each_appended more (done ++ pair ∷ []) next mid mid new slot' was' new_is part' ascending' (omega (arith, few, counts)) later)

module _ {K V : Type 0} {LEN : ℕ} {cmp : K → K → Ordering} {a : TreeArenas K V LEN} {level id node leaf : ℕ} (pair : K × V) (more : List (K × V))
    (end : EndsEdge level a id node leaf) (ascending : IsAscending cmp (walk level a id ++ pair ∷ more)) where
  -- the last leaf under the number, which has a pair, takes keys that are larger than all
  pub takes_larger : 0 < level → IsPart cmp level a id ⊎ IsRetired level a id → 0 < length (leaf_entries a.leaves leaf) → IsLastFor cmp level a id leaf pair.0
  takes_larger deep (inl part) some =
      record { deep = deep; part = part; last = (end.below, some); beyond = smaller_front cmp (walk level a id) pair more ascending }
  takes_larger deep (inr retired) some = absurd (gone level deep retired end.below)
    where
      gone : (level : ℕ) → 0 < level → IsRetired level a id → IsOnEdge level a.nodes id leaf → ⊥
      gone zero deep retired on = omega (arith, deep)
      gone (suc level) deep retired on = no_last (get a.nodes id) retired on.0 on.1

  module _ (o : IsTotalOrder cmp) (for : IsLastFor cmp level a id leaf pair.0) (made : TreeArenas K V LEN) (emptied : IsEmptied cmp a made node leaf pair.0) where
    at : AtEnd cmp level a id node leaf pair.0
    at = at_end o for end

    -- the emptied leaf is there
    pub emptied_there : IsSome (get made.leaves leaf)
    emptied_there =
        leaf_used o made node leaf pair.0 (part_made o a node leaf pair.0 pair.1 at.part at.which emptied.full made emptied.made leaf emptied.home) emptied.home

    -- and took the array
    pub run_appended : (new : TreeArenas K V LEN) (slot : LeafOf K V LEN) → get made.leaves leaf ≡ Some slot → new ≡ with_array made leaf slot (in_order (pair ∷ more))
        → length (pair ∷ more) ≤ LEN → AppendsEach cmp level a new id leaf (pair ∷ more)
    run_appended new slot there is few =
        let array : Arrivals K V = in_order (pair ∷ []) in
        let stores : IsStore cmp LEN true slot.array pair.0 pair.1 New array = rw (emptied.empty slot there) (in_order_stores cmp LEN [] pair.0 pair.1 tt (omega (arith, few))) in
        let inserts = appended_home o a node leaf pair.0 pair.1 at.part at.which emptied.full made emptied.made leaf emptied.home slot there array stores in
        each_appended o level for.deep id leaf more [] pair a made new slot there is for.part ascending few
        (appends_there o for end (with_array made leaf slot array) pair.1 inserts emptied.last (rw (here_now made leaf slot array there) (omega arith)))
