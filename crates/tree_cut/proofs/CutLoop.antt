-- The children of a node that are cut one after another, from behind.
use Rattle.tree_cut.proofs.Common.{sub-one, ◌≡◌, ℕ, suc, ◌+◌, ◌-◌, ◌≤◌, ◌<◌, List, [], ◌∷◌, ◌++◌, take, drop, length, length-append, length-take, None, refl, sym, ap, ◌∙◌, arith, flat_map, Ordering, take-append-drop, AllByRecursion, IsTotalOrder, Bound, flat_map-append, filter-append, cut, all-append, filter_all, get, TreeArenas, IsPart, KeepsBounds, NodeStands, Replaces, Stands, children_of, keyed, walk, BeginsAt, EndsAt, Narrows, CutsAt, CutsUnder, HasNoEmpty, keyed_of, take-take, all_passed, all_front, part_after, replaces_refl, replaces_trans, walk-children, add-one}
use Rattle.tree_cut.proofs.Nodes.{as_node, TurnAt, split_here, turn}
use Rattle.tree_cut.proofs.Outside.{IsOutside, backs_outside, fronts_outside, high_met, low_opened, narrowed_cut}

-- what holds of all holds of the first
all_take : {X : Type 0} (P : X → Type 0) (n : ℕ) (xs : List X) → AllByRecursion P xs → AllByRecursion P (take n xs)
all_take P n xs all = all_front P (take n xs) (drop n xs) (rw (take-append-drop n xs) all)

module _ {K V : Type 0} (cmp : K → K → Ordering) (low high : Bound K) where
  outside_cut : (xs : List (K × V)) → IsOutside cmp low high (cut cmp xs low high)
  outside_cut xs = all_passed _ _ (λ p passes. passes) xs

  cut_middle : (front middle back : List (K × V)) → cut cmp (front ++ (cut cmp middle low high ++ back)) low high ≡ cut cmp (front ++ (middle ++ back)) low high
  cut_middle front middle back = simp (filter-append, filter_all _ (cut cmp middle low high) (outside_cut middle))

module _ {K V : Type 0} {LEN : ℕ} (a : TreeArenas K V LEN) (id : ℕ) where
  walk_below : (level : ℕ) → 0 < level → walk level a id ≡ flat_map (walk (level - 1) a) (children_of a.nodes id)
  walk_below level inner = grind (arith, sub-one, walk-children)

  walk_split : (level place : ℕ) → 0 < level → walk level a id
      ≡ flat_map (walk (level - 1) a) (take place (children_of a.nodes id)) ++ flat_map (walk (level - 1) a) (drop place (children_of a.nodes id))
  walk_split level place inner =
      walk_below level inner
      ∙ ap (flat_map (walk (level - 1) a)) (sym (take-append-drop place (children_of a.nodes id)))
      ∙ flat_map-append (walk (level - 1) a) (take place (children_of a.nodes id)) (drop place (children_of a.nodes id))

-- the children from the place on have no key within the bounds any more, and the separators before it are those at the start
pub record CutState {K V : Type 0} {LEN : ℕ} (cmp : K → K → Ordering) (low high : Bound K) (first last level : ℕ) (start now : TreeArenas K V LEN) (id place gone : ℕ)
    : Type 0 where
  pub inner : 0 < level
  pub pairs : cut cmp (walk level now id) low high ≡ cut cmp (walk level start id) low high
  pub counted : gone + length (walk level now id) ≡ length (walk level start id)
  pub stands : KeepsBounds cmp level start now id
  pub replaces : Replaces level start now (id ∷ []) (id ∷ [])
  pub no_empty : HasNoEmpty level start id → HasNoEmpty level now id
  pub part : IsPart cmp level now id
  pub begins : BeginsAt cmp low (keyed_of (get start.nodes id)) first
  pub ends : EndsAt cmp high (keyed_of (get start.nodes id)) last
  pub upto : place ≤ last + 1
  pub same : take place (keyed_of (get now.nodes id)) ≡ take place (keyed_of (get start.nodes id))
  pub done : IsOutside cmp low high (flat_map (walk (level - 1) now) (drop place (children_of now.nodes id)))

module _ {K V : Type 0} {LEN : ℕ} {cmp : K → K → Ordering} (o : IsTotalOrder cmp) {low high : Bound K} {first last level : ℕ} {start : TreeArenas K V LEN} {id : ℕ} where
  pub starts : 0 < level → IsPart cmp level start id → BeginsAt cmp low (keyed_of (get start.nodes id)) first → EndsAt cmp high (keyed_of (get start.nodes id)) last
      → CutState cmp low high first last level start start id (last + 1) 0
  starts inner part begins ends =
      let s = as_node cmp level start id inner part.stands in
      let done : IsOutside cmp low high (flat_map (walk (level - 1) start) (drop (last + 1) (children_of start.nodes id))) =
      rw (add-one, s.here, s.last_is) (backs_outside o low high (level - 1) start None _ s.last None s.parted last (rw s.here at ends.within) (rw s.here at ends.closed)) in
      grind (arith, done, inner, part, begins, ends, replaces_refl)

  module _ {now : TreeArenas K V LEN} {place gone : ℕ} (state : CutState cmp low high first last level start now id place gone) where
    abbrev s : NodeStands cmp (Stands cmp (level - 1) now) (level - 1) now.nodes None id None
    s = as_node cmp level now id state.inner state.part.stands

    abbrev olds : List (K × ℕ)
    olds = keyed_of (get start.nodes id)

    abbrev pairs : List (K × ℕ)
    pairs = (keyed s.node).entries

    -- as many separators are left as are still needed
    pub reach : (place ≤ length (keyed_of (get now.nodes id)) + 1) × (place ≤ first → place ≤ length (keyed_of (get now.nodes id)))
    reach =
        let long = ap length state.same in
        omega (arith, state.upto, state.begins.within, state.ends.within, long, length-take place (keyed_of (get now.nodes id)), length-take place olds)

    module _ {before more : ℕ} {new : TreeArenas K V LEN} {lo hi : Bound K} (is : suc before ≡ place) (from : first ≤ before) (narrow_low : Narrows low lo before first)
        (narrow_high : Narrows high hi before last) (cuts : CutsAt cmp lo hi level (level - 1) now new id before more) where
      alike : take (suc before) pairs ≡ take (suc before) olds
      alike = rw (← is, s.here) at state.same

      fewer : take before pairs ≡ take before olds
      fewer = sym (take-take before (suc before) pairs (omega arith)) ∙ ap (take before) alike ∙ take-take before (suc before) olds (omega arith)

      at : TurnAt pairs s.last before cuts.child
      at = turn pairs s.last before cuts.child (rw (s.here, s.last_is) at cuts.here)

      same_cut : cut cmp (walk (level - 1) now cuts.child) lo hi ≡ cut cmp (walk (level - 1) now cuts.child) low high
      same_cut =
          narrowed_cut o low high (level - 1) now pairs s.last before cuts.child first last lo hi s.parted at.first narrow_low narrow_high
          (λ differs k above. low_opened o low high olds None first before (omega (arith, from, differs))
          (omega (arith, at.within, ap length fewer, length-take before pairs, length-take before olds)) state.begins.opened k (rw fewer at above))
          (λ differs k up_to.
          let less : before < last = omega (arith, state.upto, is, differs) in
          high_met o low high pairs before (omega (arith, less, state.ends.within, ap length alike, length-take (suc before) pairs, length-take (suc before) olds))
          (rw (alike, ← take-take (suc before) last olds (omega (arith, less))) (all_take _ (suc before) (take last olds) state.ends.met)) k up_to)

      abbrev front : List (K × V)
      front = flat_map (walk (level - 1) now) (take before (children_of now.nodes id))

      abbrev back : List (K × V)
      back = flat_map (walk (level - 1) now) (drop (suc before) (children_of now.nodes id))

      walk_was : walk level now id ≡ front ++ (walk (level - 1) now cuts.child ++ back)
      walk_was = walk_split now id level before state.inner ∙ rw (split_here (children_of now.nodes id) before cuts.child cuts.here) refl

      walk_is : walk level new id ≡ front ++ (cut cmp (walk (level - 1) now cuts.child) low high ++ back)
      walk_is = walk_split new id level before state.inner ∙ rw (cuts.front, cuts.back, same_cut) refl

      pub steps : (HasNoEmpty level now id → HasNoEmpty level new id) → CutState cmp low high first last level start new id before (gone + more)
      steps no_empty = record {
        inner = state.inner;
        pairs = rw (walk_is, cut_middle cmp low high, ← walk_was) state.pairs;
        counted = grind (arith, state.counted, cuts.counted, same_cut, walk_was, walk_is, length-append);
        stands = λ above below t. cuts.stands above below (state.stands above below t);
        replaces = replaces_trans level start now new (id ∷ []) (id ∷ []) (id ∷ []) state.replaces cuts.replaces;
        no_empty = λ none_empty. no_empty (state.no_empty none_empty);
        part = part_after cmp level now new id state.part (cuts.stands None None state.part.stands) cuts.replaces;
        begins = state.begins;
        ends = state.ends;
        upto = omega (arith, state.upto, is);
        same = cuts.separators ∙ rw s.here fewer;
        done =
            rw (cuts.back, same_cut)
            (all-append _ (cut cmp (walk (level - 1) now cuts.child) low high) _ (outside_cut cmp low high (walk (level - 1) now cuts.child)) (rw (← is) at state.done));
      }

    pub finishes : place ≤ first → CutsUnder cmp low high level start now id gone
    finishes few =
        let missed = rw (take-take place first olds few, ← state.same, s.here) at (all_take _ place (take first olds) state.begins.missed) in
        let front : IsOutside cmp low high (flat_map (walk (level - 1) now) (take place (children_of now.nodes id))) =
        rw (s.here, s.last_is) (fronts_outside o low high (level - 1) now None _ s.last None s.parted place (rw s.here at (reach.1 few)) missed) in
        let outside : IsOutside cmp low high (walk level now id) = rw (walk_split now id level place state.inner) (all-append _ _ _ front state.done) in
        grind (arith, filter_all, outside, state.pairs, state.counted, state.stands, state.replaces, state.no_empty)
