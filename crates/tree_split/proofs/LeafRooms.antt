-- A leaf node that makes room for a key: its leaf is split or built anew.
use Rattle.std.proofs.Common.{◌≡◌, ℕ, ◌-◌, ◌≤◌, Bool, true, ◌∷◌, drop, length, Option, Some, None, IsSome, refl, sym, ap, ◌∙◌, arith, inl, inr, false, slice_get, if◌then◌else◌, Ordering, Less, Equal, is_ge}
use Rattle.std.proofs.lemmas.Bool.{eq-eqb}
use Rattle.tree_split.proofs.Common.{AllByRecursion, GivesAll, GivesFirst, HasChildFor, HasKind, HasLast, HasMadeRoom, HasRoom, Arrivals, IsAbsent, IsCut, IsForKey, IsPacked, IsPart, IsSound, IsTotalOrder, LeafOf, PartsChild, PutsChild, SharesEntries, TreeArenas, Updates-with_value, absent_here, all_given, all_map, child_at, child_is, child_part, chosen_past, edge_below, entries_now, gains_low, get, here_now, high_for, in_order, is_at, is_from, is_last, keyed, last_child, last_for, last_now, last_place, leaf_entries, leaf_part, leaf_rebuilt, limit, low_for, low_part, one_last, packed_split, place_for, room_made_by_rebuild, unbounded, with_array, with_value}
use Rattle.std.specs.Option.{ForSome}
use Rattle.tree_model.proofs.Common.{drop_all}
use Rattle.tree_node.specs.declared.node.NodeOf.{NodeOf}
use Rattle.tree_split.proofs.Fulls.{none_free}
use Rattle.tree_split.specs.Splits.{GoesWhole}
use Rattle.tree_split.specs.DividesLeaf.{DividesLeaf}
use Rattle.tree_split.specs.Lasts.{HoldsAnew, IsEmptied, StaysLast}
use Rattle.tree_split.proofs.LeafSplits.{IsBetween, IsParted, edge_goes_on, high_room, leaf_splits_low, low_room, past}

module _ {K V : Type 0} {LEN : ℕ} {cmp : K → K → Ordering} (o : IsTotalOrder cmp) (old : TreeArenas K V LEN) (id x : ℕ) (key : K) (part : IsPart cmp 1 old id) (which : HasChildFor cmp key (get old.nodes id) x) where
  -- the leaf is a part itself
  pub leaf_placed : IsPart cmp 0 old x
  leaf_placed = child_part o 0 old id x key part which None None part.stands

  pub leaf_used : IsSome (get old.leaves x)
  leaf_used = rw leaf_placed.stands.here refl

module _ {K V : Type 0} {LEN : ℕ} {cmp : K → K → Ordering} (o : IsTotalOrder cmp) {old : TreeArenas K V LEN} {id : ℕ} (x : ℕ) (key : K)
    (part : IsPart cmp 1 old id) (which : HasChildFor cmp key (get old.nodes id) x) where
  place : IsForKey cmp key (keyed part.stands.node).entries part.stands.last x
  place = place_for o key (keyed part.stands.node).entries part.stands.last x (sym (child_is o 0 old None id None part.stands key x which))

  -- the leaf is built anew, after its array was read
  module _ {leaf read : LeafOf K V LEN} {array : Arrivals K V} (was : get old.leaves x ≡ Some leaf) (seen : get old.leaves x ≡ Some read) (is : array ≡ read.array)
      (few : length array.entries ≤ limit LEN) where
    abbrev anew : TreeArenas K V LEN
    anew = with_array old x leaf (in_order leaf.array.entries)

    same : array ≡ leaf.array
    same = cc (was, seen, is)

    pub entries_kept : SharesEntries cmp old anew id x key
    entries_kept = inl (rw (was, ← same) few, rw (was, here_now old x leaf (in_order leaf.array.entries) was) refl)

    pub leaf_room_by_rebuild : IsSound cmp LEN array → HasMadeRoom cmp 1 old anew id key
    leaf_room_by_rebuild sound = room_made_by_rebuild 0 old anew id x part (leaf_rebuilt old x leaf was (rw same at sound) (rw same at few)) place.at key which

  -- so many of its first entries are to part from the others
  module _ {leaf : LeafOf K V LEN} {array : Arrivals K V} {node : NodeOf K LEN} {last : Bool} {count : ℕ} (was : get old.leaves x ≡ Some leaf) (array_is : array ≡ leaf.array)
      (was_node : get old.nodes id ≡ Some node) (is : last ≡ is_at (unbounded node) x) (rule : count ≡ low_part cmp LEN last array key) where
    -- a new one got them
    pub entries_parted : HasRoom LEN (keyed node) → (new : TreeArenas K V LEN) → GivesFirst old new x count → SharesEntries cmp old new id x key
    entries_parted some new gives =
        let same : count ≡ leaf_part cmp (is_last (get old.nodes id) x) (get old.leaves x) key = rw (was_node, was, ← is, ← array_is) rule in
        let same_node : part.stands.node ≡ node = cc (part.stands.here, was_node) in
        inr (rw (was_node, ← same_node, part.stands.last_is, same_node, some.1) some.0, rw same at gives)

    -- the last leaf of a packed part, which is full, gives all
    pub gives_all : IsSound cmp LEN array → GivesAll cmp old id x count key
    gives_all sound which' none e =
        let edge : IsPacked cmp (Some key) 0 old x = edge_below o 0 old id x key part which e in
        let same : edge.leaf.array ≡ array = cc (edge.here, was, array_is) in
        let same_node : e.node ≡ node = cc (e.here, was_node) in
        let at_last : unbounded node ≡ Some x = rw same_node at (e.last_is ∙ ap Some (sym (last_child o 0 old id x key part which e))) in
        let yes : last ≡ true = is ∙ rw at_last (eq-eqb x x refl) in
        rule ∙ rw yes (all_given o LEN array key sound (rw same at edge.packed) (rw (was, ← array_is) at none) (rw same at edge.ends))

-- what holds of a value that was found
for_some : {T : Type 0} {found : Option T} {value : T} (P : T → Type 0) → found ≡ Some value → P value → ForSome found P
for_some {value = value} P was held other is = let same : value ≡ other = cc (was, is) in rw (← same) held

-- a leaf of which so many first entries may part from the others
module _ {K V : Type 0} {LEN : ℕ} {cmp : K → K → Ordering} {key : K} {count : ℕ} {leaf : LeafOf K V LEN} {array : Arrivals K V}
    (old : TreeArenas K V LEN) (id x : ℕ) (was : get old.leaves x ≡ Some leaf) (is : array ≡ leaf.array) (sound : IsSound cmp LEN array) (cut : IsCut cmp key count array.entries) where
  -- what a split asks for
  pub may_split : {node : NodeOf K LEN} → GoesWhole LEN array count → get old.nodes id ≡ Some node → HasRoom LEN (keyed node)
      → ForSome (get old.leaves x) (λ leaf. IsSound cmp LEN leaf.array) × (ForSome (get old.leaves x) (λ leaf. GoesWhole LEN leaf.array count)
      × (IsCut cmp key count (leaf_entries old.leaves x) × ForSome (get old.nodes id) (λ node. HasRoom LEN (keyed node))))
  may_split whole here some = (
    for_some (λ leaf. IsSound cmp LEN leaf.array) was (rw is at sound),
    (for_some (λ leaf. GoesWhole LEN leaf.array count) was (rw is at whole), (rw (was, ← is) cut, for_some (λ node. HasRoom LEN (keyed node)) here some)),
  )

  -- so many as there are slots are all
  pub emptied_so : {new : TreeArenas K V LEN} {home : ℕ} → LEN ≤ count → HasLast (get old.nodes id) x
      → (GivesAll cmp old id x count key → HasMadeRoom cmp 1 old new id key × HasChildFor cmp key (get new.nodes id) home)
      → StaysLast cmp old new id x key home → HoldsAnew new x (drop count (leaf_entries old.leaves x)) → IsEmptied cmp old new id x key
  emptied_so whole last made stays others =
      let few : length array.entries ≤ LEN = omega (arith, sound.entries_few, sound.few) in
      let beyond : AllByRecursion (λ p. cmp p.0 key ≡ Less) array.entries = elim cut.stays [ inl some ↦ absurd (omega (arith, some, few, whole)) | inr beyond ↦ beyond ] in
      let done = made (λ which none e. omega (arith, cut.within, few, whole)) in
      let stayed = stays last (rw (was, ← is) beyond) in
      record {
        full = rw (was, ← is) (none_free LEN array (inl (omega (arith, cut.within, sound.entries_few, whole))));
        made = done.0;
        home = rw stayed.0 at done.1;
        last = stayed.1;
        empty = rw (was, ← is, drop_all count array.entries (omega (arith, few, whole))) at others;
      }

-- a leaf was divided at the separator that was cloned
pub parted_so : {K V : Type 0} {LEN : ℕ} {cmp : K → K → Ordering} {key : K} {old mid : TreeArenas K V LEN} {id x count y : ℕ} {leaf : LeafOf K V LEN}
    {array : Arrivals K V} {separator : K} → IsPart cmp 1 old id → HasChildFor cmp key (get old.nodes id) x → DividesLeaf old mid x count y
    → ((leaf : LeafOf K V LEN) → get old.leaves x ≡ Some leaf → IsSound cmp LEN leaf.array) → get old.leaves x ≡ Some leaf → array ≡ leaf.array
    → ((pair : K × V) × (slice_get array.entries (count - 1) ≡ Some pair) × (cmp pair.0 separator ≡ Equal))
    → IsCut cmp key count (leaf_entries old.leaves x) → IsParted cmp key old mid id x count y separator
parted_so {leaf = leaf} part which d sound was is found cut =
    let same : leaf ≡ d.leaf = cc (was, d.was) in
    let last = rw (is, same) at found.1 in
    let cut' = rw d.was at cut in
    record { part = part; which = which; d = d; sound = sound d.leaf d.was; pair = found.0; last_low = last; cloned = found.2; cut = cut' }

-- it gave its first entries to a new one
module _ {K V : Type 0} {LEN : ℕ} {cmp : K → K → Ordering} (o : IsTotalOrder cmp) {key : K} {old mid : TreeArenas K V LEN} {id x y count : ℕ} {separator : K}
    (p : IsParted cmp key old mid id x count y separator) where
  open p use {part, which}

  spot : IsForKey cmp key (keyed part.stands.node).entries part.stands.last x
  spot = place o x key part which

  abbrev parts : PartsChild cmp (IsBetween cmp key) 0 old mid id x y separator
  parts = record {
    part = part;
    splits = leaf_splits_low o p;
    at = spot.at;
    inner = λ low high inside. (low_for cmp key low spot.at.before spot.smaller inside.0, high_for cmp key spot.at.onward high spot.up_to inside.1);
    within = (tt, tt);
  }

  module _ (node : NodeOf K LEN) (is_node : get mid.nodes id ≡ Some node) where
    node_is : part.stands.node ≡ node
    node_is = cc (p.d.nodes id, is_node, part.stands.here)

    pub parent_kind : HasKind 0 node
    parent_kind = rw node_is at part.stands.kind

    pub separator_is_new : IsAbsent cmp (keyed node).entries separator
    separator_is_new = absent_here o parts node is_node

    module _ (node' : NodeOf K LEN) (puts : PutsChild cmp node node' separator y) where
      abbrev new : TreeArenas K V LEN
      new = record mid { nodes = with_value mid.nodes id node' }

      here : get new.nodes id ≡ Some node'
      here = (Updates-with_value mid.nodes id node' (rw is_node refl)).changed

      pub leaf_room_by_split : GivesAll cmp old id x count key → HasMadeRoom cmp 1 old new id key
      leaf_room_by_split gives =
          let gains = gains_low o parts node is_node node' puts in
          record {
            packed = λ child last' none e.
                let last : HasLast (get old.nodes id) x = last_for cmp 1 (omega arith) old id x key which e in
                let edge : IsPacked cmp (Some key) 0 old x = edge_below o 0 old id x key part which e in
                let on = edge_goes_on o p edge (gives which (rw (one_last (get old.nodes id) child x last' last) at none) e) in
                let same : e.node ≡ part.stands.node = cc (e.here, part.stands.here) in
                let at_end : PartsChild cmp (IsBetween cmp key) 0 old mid id x y separator = record {
                  part = part;
                  splits = leaf_splits_low o p;
                  at = last_place 0 old id part.stands x last;
                  inner = λ low high inside. (low_for cmp key low (keyed part.stands.node).entries (rw same at e.keys) inside.0, inside.1);
                  within = (tt, tt);
                } in
                packed_split o at_end node is_node node' puts refl (Some key) last e on.0 on.1 on.2;
            pairs = gains.pairs;
            stands = λ low high above up_to s. gains.stands low high (above, up_to) s;
            replaces = gains.replaces;
            spares = gains.spares;
            spends = gains.spends;
            child = λ child routed. gains.routed key child which routed (low_room o p) (high_room o p);
          }

      -- the key belongs to the new leaf up to the separator, and to the old one beyond it
      pub home_by_split : HasChildFor cmp key (get new.nodes id) (if◌then◌else◌ (is_from cmp key separator) y x)
      home_by_split =
          let none : AllByRecursion (λ c. is_from cmp key c.0 ≡ false) spot.at.before = all_map (λ c less. ap is_ge less) spot.at.before spot.smaller in
          let goes = child_is o 0 old None id None part.stands key x which in
          let was = chosen_past (is_from cmp key) spot.at.before spot.at.onward part.stands.last none in
          let old_home : child_at (is_from cmp key) spot.at.onward part.stands.last ≡ x = sym was ∙ rw (← spot.at.split) (sym goes) in
          rw (here, last_now o parts node is_node node' puts, entries_now o parts node is_node node' puts)
          (rw (chosen_past (is_from cmp key) spot.at.before ((separator, y) ∷ spot.at.onward) part.stands.last none, old_home) refl)

      -- a key beyond the last leaf stays with it, and the node keeps its last child
      pub last_by_split : StaysLast cmp old new id x key (if◌then◌else◌ (is_from cmp key separator) y x)
      last_by_split last beyond =
          let less : is_from cmp key separator ≡ false = ap is_ge (past o p (rw p.d.was at beyond)) in
          let kept = rw part.stands.here at last in
          (rw less refl, rw here (puts.last ∙ rw node_is at kept))
