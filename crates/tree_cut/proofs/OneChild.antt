-- One child of a node is cut, or dropped and taken out: what that makes of the part under the node.
use Rattle.tree_cut.proofs.Common.{Agrees, AllByRecursion, Bool, Bound, CutsAt, CutsUnder, HasKind, HasNoEmpty, HasNoEmptyBut, HasPair, IsPart, IsTotalOrder, KeepsBounds, List, LosesKeyed}
use Rattle.tree_cut.proofs.Common.{MatchOption, NodeOf, None, Option, Ordering, Replaces, Siblings, Some, Stands, TakesKeyed, TreeArenas, Unbounded, [], add-one, agrees_below, agrees_here}
use Rattle.tree_cut.proofs.Common.{all-append, all_at, all_yes, ap, append-nil, arith, arrival, cases_eq, child_placed, children_of, cut, cut_whole, drop, drop_at, false, filter_none, flat_map}
use Rattle.tree_cut.proofs.Common.{flat_map-append, get, in_turn, inl, inr, is_some, keyed, keyed_of, length, length-take-le, loses_keyed, map, node_children, node_is, node_kept, node_stays}
use Rattle.tree_cut.proofs.Common.{part_after, parted_map, refl, replaces_trans, same_walk, siblings, slice_get, slice_get_within, stands_each, stay, sub-one, suc, sym, take, take_at, true, walk}
use Rattle.tree_cut.proofs.Common.{zero, ℕ, ◌++◌, ◌+◌, ◌-◌, ◌<◌, ◌∙◌, ◌∷◌, ◌≡◌, ◌≢◌}
use Rattle.tree_cut.proofs.Nodes.{TurnAt, keyed_child, length-turns, split_here, turn}

module _ {X : Type 0} (P : X → Type 0) where
  -- what holds at each place of a list holds of all
  all_places : (xs : List X) → ((n : ℕ) (x : X) → slice_get xs n ≡ Some x → P x) → AllByRecursion P xs
  all_places [] each = tt
  all_places (x ∷ xs) each = (each 0 x refl, all_places xs (λ n y is. each (suc n) y is))

  -- what holds before a place and behind it holds at each other place
  pub all_beside : (place : ℕ) (xs : List X) → AllByRecursion P (take place xs) → AllByRecursion P (drop (suc place) xs) → (n : ℕ) (x : X) → slice_get xs n ≡ Some x
      → n ≢ place → P x
  all_beside place [] front back n x is differs = absurd (cc)
  all_beside zero (y ∷ xs) front back zero x is differs = absurd (differs refl)
  all_beside zero (y ∷ xs) front back (suc n) x is differs = all_at P xs n x back is
  all_beside (suc place) (y ∷ xs) front back zero x is differs = let same : x ≡ y = cc in rw same front.0
  all_beside (suc place) (y ∷ xs) front back (suc n) x is differs = all_beside place xs front.1 back n x is (λ same. differs (ap suc same))

  -- and of all once the element at the place is gone
  pub all_without : (place : ℕ) (xs : List X) → ((n : ℕ) (x : X) → slice_get xs n ≡ Some x → n ≢ place → P x)
      → AllByRecursion P (take place xs ++ drop (suc place) xs)
  all_without zero [] each = tt
  all_without zero (x ∷ xs) each = all_places xs (λ n y is. each (suc n) y is (λ bad. cc))
  all_without (suc place) [] each = tt
  all_without (suc place) (x ∷ xs) each = (each 0 x refl (λ bad. cc), all_without place xs (λ n y is differs. each (suc n) y is (λ same. differs (cc))))

module _ {K V : Type 0} {LEN : ℕ} (a b : TreeArenas K V LEN) where
  pub pair_same : (level id : ℕ) → Agrees level a b id → HasPair level a id → HasPair level b id
  pair_same level id same had none = had (sym (same_walk level a b id same) ∙ none)

  pub same_no_empty : (level id : ℕ) → Agrees level a b id → HasNoEmpty level a id → HasNoEmpty level b id
  same_no_empty zero id same before = tt
  same_no_empty (suc level) id same before =
      let each = all_at (Agrees level a b) (children_of a.nodes id) in
      let below = agrees_below level a b id same in
      rw (agrees_here level a b id same) (
        all_places _ _ (λ n c is. pair_same level c.1 (each n c.1 below (keyed_child (get a.nodes id) n c is)) (all_at _ _ n c before.0 is)),
        all_places _ _ (λ n x is. same_no_empty level x (each n x below is) (all_at _ _ n x before.1 is)),
      )

module _ {K V : Type 0} {LEN : ℕ} (level : ℕ) (a : TreeArenas K V LEN) (id place : ℕ) where
  -- all keyed children but one, and all
  pub but_one : HasNoEmpty (suc level) a id → HasNoEmptyBut level a id place
  but_one before = record { pairs = λ n c is differs. all_at _ _ n c before.0 is; below = λ n x is differs. all_at _ _ n x before.1 is }

  pub and_one : HasNoEmptyBut level a id place → ((c : K × ℕ) → slice_get (keyed_of (get a.nodes id)) place ≡ Some c → HasPair level a c.1)
      → ((x : ℕ) → slice_get (children_of a.nodes id) place ≡ Some x → HasNoEmpty level a x) → HasNoEmpty (suc level) a id
  and_one others pair below = (
    all_places _ _ (λ n c is. elim (cases_eq n place) [ inl same ↦ pair c (rw same at is) | inr differs ↦ others.pairs n c is differs ]),
    all_places _ _ (λ n x is. elim (cases_eq n place) [ inl same ↦ below x (rw same at is) | inr differs ↦ others.below n x is differs ]),
  )

pub open_cut : {K V : Type 0} (cmp : K → K → Ordering) (xs : List (K × V)) → cut cmp xs Unbounded Unbounded ≡ []
open_cut cmp xs = filter_none _ xs (all_yes (λ x. refl) xs)

module _ {K V : Type 0} {LEN : ℕ} (cmp : K → K → Ordering) where
  -- what stands at a place of a node, and what a change of it makes of the node
  pub record ChildAt (level below : ℕ) (old : TreeArenas K V LEN) (id place child : ℕ) (node : NodeOf K LEN) : Type 0 where
    pub kind : HasKind below node
    pub part : IsPart cmp below old child
    pub no_empty : HasNoEmpty level old id → HasNoEmpty below old child
    pub but_one : HasNoEmpty level old id → HasNoEmptyBut below old id place
    pub stays : {new : TreeArenas K V LEN} {ids : List ℕ} → Replaces below old new (child ∷ []) ids → get new.nodes id ≡ Some node
    -- the child is cut
    pub cuts : {low high : Bound K} {new : TreeArenas K V LEN} {gone : ℕ} → CutsUnder cmp low high below old new child gone
        → CutsAt cmp low high level below old new id place gone
    pub others : {low high : Bound K} {new : TreeArenas K V LEN} {gone : ℕ} → CutsUnder cmp low high below old new child gone → HasNoEmpty level old id
        → HasNoEmptyBut below new id place
    -- and has a pair left, if it is a keyed one
    pub left : {low high : Bound K} {new : TreeArenas K V LEN} {gone : ℕ} → CutsUnder cmp low high below old new child gone → HasNoEmpty level old id
        → ((c : K × ℕ) → slice_get (keyed node).entries place ≡ Some c → HasPair below new child) → HasNoEmpty level new id
    -- or is dropped, and taken out of the node by the slot of its separator
    pub drops : {mid new : TreeArenas K V LEN} {slot : ℕ}
        → (pair : K × ℕ) × (arrival (keyed node).arrivals slot ≡ Some pair) × (slice_get (keyed node).entries place ≡ Some pair)
        → Replaces below old mid (child ∷ []) [] → TakesKeyed cmp mid.nodes new.nodes id slot → new.leaves ≡ mid.leaves
        → CutsAt cmp Unbounded Unbounded level below old new id place (length (walk below old child)) × (HasNoEmptyBut below old id place → HasNoEmpty level new id)

module _ {K V : Type 0} {LEN : ℕ} {cmp : K → K → Ordering} (o : IsTotalOrder cmp) (level : ℕ) (old : TreeArenas K V LEN) (id place child : ℕ)
    (part : IsPart cmp (suc level) old id)
    (st : Stands cmp (suc level) old None id None) (at : TurnAt (keyed st.node).entries st.last place child) where
  abbrev pairs : List (K × ℕ)
  pairs = (keyed st.node).entries

  abbrev front : List ℕ
  front = take place (in_turn pairs (Some st.last))

  abbrev back : List ℕ
  back = drop (suc place) (in_turn pairs (Some st.last))

  children_are : children_of old.nodes id ≡ in_turn pairs (Some st.last)
  children_are = rw (st.here, st.last_is) refl

  was : children_of old.nodes id ≡ front ++ (child ∷ [] ++ back)
  was = children_are ∙ rw add-one at (cut_whole (in_turn pairs (Some st.last)) place child at.here)

  front_long : length front ≡ place
  front_long = length-take-le place (in_turn pairs (Some st.last)) (omega (arith, at.within, length-turns pairs (Some st.last) refl))

  same_node : (new : TreeArenas K V LEN) (ids : List ℕ) → Replaces level old new (child ∷ []) ids → get new.nodes id ≡ get old.nodes id
  same_node = node_stays level old id part front child back was

  child_no_empty : HasNoEmpty (suc level) old id → HasNoEmpty level old child
  child_no_empty none_empty = all_at (HasNoEmpty level old) _ place child (rw children_are at none_empty.1) at.here

  -- the child has become `left`, and the others stay
  module _ {mid : TreeArenas K V LEN} (new : TreeArenas K V LEN) (left : List ℕ) (s : Siblings level old mid new id front (child ∷ []) left back) where
    changed : (low high : Bound K) (gone : ℕ) → flat_map (walk level new) left ≡ cut cmp (walk level old child) low high
        → gone + length (cut cmp (walk level old child) low high) ≡ length (walk level old child) → take place (keyed_of (get new.nodes id)) ≡ take place pairs
        → KeepsBounds cmp (suc level) old new id
        → CutsAt cmp low high (suc level) level old new id place gone
    changed low high gone left_is counted separators stands =
        grind (arith, children_are, at.here, s.now, take_at, front_long, stay, s.lifts.fronts, drop_at, flat_map-append, s.lifts.backs, st.here, s.lifts.replaces)

    beside : (n x : ℕ) → slice_get (in_turn pairs (Some st.last)) n ≡ Some x → n ≢ place → Agrees level old new x
    beside = all_beside (Agrees level old new) place (in_turn pairs (Some st.last)) s.lifts.fronts s.lifts.backs

    -- what holds of the children beside it
    kept : HasNoEmptyBut level old id place → ((n : ℕ) (c : K × ℕ) → slice_get pairs n ≡ Some c → n ≢ place → HasPair level new c.1)
        × ((n x : ℕ) → slice_get (in_turn pairs (Some st.last)) n ≡ Some x → n ≢ place → HasNoEmpty level new x)
    kept others = (
      λ n c is differs. grind (arith, st.last_is, st.here, keyed_child (Some st.node) n c is, pair_same old new level c.1, beside n c.1, others.pairs n c, is, differs),
      λ n x is differs. grind (arith, children_are, same_no_empty old new level x, beside n x, others.below n x, is, differs),
    )

  -- the child is cut
  module _ {low high : Bound K} {new : TreeArenas K V LEN} {gone : ℕ} (cuts : CutsUnder cmp low high level old new child gone) where
    kept_node : get new.nodes id ≡ get old.nodes id
    kept_node = same_node new (child ∷ []) cuts.replaces

    cut_beside : Siblings level old new new id front (child ∷ []) (child ∷ []) back
    cut_beside = siblings part cuts.replaces was (rw kept_node was) (λ n differs. refl) (rw (kept_node, st.here) refl) refl

    cut_keeps : KeepsBounds cmp (suc level) old new id
    cut_keeps above below s =
        let each : AllByRecursion (λ x. KeepsBounds cmp level old new x) (children_of old.nodes id) =
        rw was (all-append _ front (child ∷ back) (stands_each cmp level old new front cut_beside.lifts.fronts)
        (cuts.stands, stands_each cmp level old new back cut_beside.lifts.backs)) in
        node_kept s kept_node (parted_map cmp (Stands cmp level old) (Stands cmp level new) above _ _ below (rw (s.here, s.last_is) at each) s.parted)

    cut_others : HasNoEmpty (suc level) old id → HasNoEmptyBut level new id place
    cut_others none_empty = grind (arith, kept new (child ∷ []) cut_beside (but_one level old id place none_empty), kept_node, st.here, children_are)

  -- the child is dropped, and taken out by the slot of its separator
  module _ (mid new : TreeArenas K V LEN) (slot : ℕ)
      (found : (pair : K × ℕ) × (arrival (keyed st.node).arrivals slot ≡ Some pair) × (slice_get (keyed st.node).entries place ≡ Some pair))
      (dropped : Replaces level old mid (child ∷ []) []) (takes : TakesKeyed cmp mid.nodes new.nodes id slot) (leaves : new.leaves ≡ mid.leaves) where
    same : found.0.1 ≡ child
    same = cc (rw st.last_is at (keyed_child (Some st.node) place found.0 found.2), at.here)

    there : slice_get pairs place ≡ Some (found.0.0, child)
    there = found.2 ∙ ap (λ (x : ℕ). Some (found.0.0, x)) same

    loses : LosesKeyed cmp level old new id (take place pairs) (drop (suc place) pairs) st.last
    loses =
        loses_keyed o level old id child st found.0.0 (take place pairs) (drop (suc place) pairs)
        (rw add-one at (cut_whole pairs place (found.0.0, child) there)) mid new slot (same_node mid [] dropped) takes (found.1 ∙ ap (λ (x : ℕ). Some (found.0.0, x)) same)

    back_is : back ≡ map (λ c. c.1) (drop (suc place) pairs) ++ st.last ∷ []
    back_is = at.behind ∙ rw (split_here pairs place (found.0.0, child) there) refl

    drop_beside : Siblings level old mid new id front (child ∷ []) [] back
    drop_beside = siblings part dropped was (rw (at.before, back_is) loses.children) takes.updates.others (rw loses.here refl) leaves

    drop_child : CutsAt cmp Unbounded Unbounded (suc level) level old new id place (length (walk level old child))
        × (HasNoEmptyBut level old id place → HasNoEmpty (suc level) new id)
    drop_child = (
      changed new [] drop_beside Unbounded Unbounded (length (walk level old child)) (sym (open_cut cmp (walk level old child)))
          (rw (open_cut cmp (walk level old child)) (omega arith))
          (rw (loses.here, loses.entries) (take_at (take place pairs) (drop (suc place) pairs) place (length-take-le place pairs at.within)))
          (loses.keeps (rw (← at.before, ← back_is)
          (all-append _ front back (stands_each cmp level old new front drop_beside.lifts.fronts) (stands_each cmp level old new back drop_beside.lifts.backs)))),
      λ others.
          let each = kept new [] drop_beside others in
          (rw (loses.here, loses.entries) (all_without _ place pairs each.0), rw drop_beside.now (all_without _ place (in_turn pairs (Some st.last)) each.1)),
    )

  at_level : ChildAt cmp (suc level) level old id place child st.node
  at_level = record {
    kind = st.kind;
    part = child_placed level old id part front child back was;
    no_empty = child_no_empty;
    but_one = but_one level old id place;
    stays = λ {new} {ids} r. same_node new ids r ∙ st.here;
    cuts = λ {low} {high} {new} {gone} cuts.
        changed new (child ∷ []) (cut_beside cuts) low high gone (grind (arith, append-nil, cuts.pairs)) (grind (arith, cuts.pairs, cuts.counted))
        (rw (kept_node cuts, st.here) refl) (cut_keeps cuts);
    others = cut_others;
    left = λ {low} {high} {new} {gone} cuts none_empty has_pair.
        and_one level new id place (cut_others cuts none_empty)
        (λ c is. grind (arith, is, has_pair c, kept_node cuts, st.here, st.last_is, keyed_child (Some st.node) place c, at.here))
        (λ x is. grind (arith, is, kept_node cuts, children_are, at.here, cuts.no_empty, child_no_empty none_empty));
    drops = λ {mid} {new} {slot}. drop_child mid new slot;
  }

module _ {K V : Type 0} {LEN : ℕ} {cmp : K → K → Ordering} (o : IsTotalOrder cmp) where
  pub child_at : (level : ℕ) {place : ℕ} {old : TreeArenas K V LEN} {id child : ℕ} {node : NodeOf K LEN} → 0 < level → IsPart cmp level old id
      → get old.nodes id ≡ Some node → slice_get (node_children (Some node)) place ≡ Some child → ChildAt cmp level (level - 1) old id place child node
  child_at zero inner part here is = absurd (omega (arith, inner))
  child_at (suc level) {place} {old} {id} {child} {node} inner part here is =
      let s : Stands cmp (suc level) old None id None = part.stands in
      let same : s.node ≡ node = node_is level old None id None s node here in
      rw (sub-one (suc level), ← same) (at_level o level old id place child part s (turn (keyed s.node).entries s.last place child (rw (← same, s.last_is) at is)))

-- a keyed child is there where its slot was read, and only there
pub slot_told : {K : Type 0} {LEN : ℕ} {read : Bool} (node : NodeOf K LEN) (place : ℕ) (slot : Option ℕ) → read ≡ is_some slot
    → MatchOption slot (slice_get (keyed node).entries place ≡ None)
    (λ s. (pair : K × ℕ) × (arrival (keyed node).arrivals s ≡ Some pair) × (slice_get (keyed node).entries place ≡ Some pair))
    → (read ≡ true → place < length (keyed node).entries) × (read ≡ false → slice_get (keyed node).entries place ≡ None)
slot_told node place None is found = (λ some. absurd (cc), λ none. found)
slot_told node place (Some slot) is found = (λ some. slice_get_within _ place found.0 found.2, λ none. absurd (cc))

module _ {K V : Type 0} {LEN : ℕ} {cmp : K → K → Ordering} {low high : Bound K} {level below : ℕ} {old mid : TreeArenas K V LEN} {id place gone : ℕ}
    (cuts : CutsAt cmp low high level below old mid id place gone) where
  -- the node is a part still
  pub part_left : IsPart cmp level old id → IsPart cmp level mid id
  part_left part = part_after cmp level old mid id part (cuts.stands None None part.stands) cuts.replaces

  -- a child of which nothing is left is dropped
  pub empty_drop : {new : TreeArenas K V LEN} {more child : ℕ} → CutsAt cmp Unbounded Unbounded level below mid new id place more
      → slice_get (children_of mid.nodes id) place ≡ Some child → walk below mid child ≡ [] → CutsAt cmp low high level below old new id place gone
  empty_drop {new} {child = child} drops there none =
      grind (arith, split_here, there, open_cut, drops, drops.back, cuts, cuts.here, drops.stands, cuts.stands, replaces_trans, cuts.replaces, drops.replaces)
