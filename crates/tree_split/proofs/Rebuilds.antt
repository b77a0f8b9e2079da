-- A child that is built anew in its place, with what it had, and the node above it.
use Rattle.std.proofs.Common.{◌≡◌, ℕ, suc, ◌<◌, ◌≤◌, List, [], ◌∷◌, ◌++◌, map, length, Option, Some, None, refl, sym, ap, ◌∙◌, arith, sub-one, Ordering}
use Rattle.tree_split.proofs.Words.{Arrivals, HasChildFor, IsLen, IsPart, IsSound, KeepsBounds, LeafOf, Replaces, Stands, TreeArenas, Updates, Updates-with_value, all-append, children_of, get, held, in_order, keyed, length-map, limit, node_is, node_kept, node_made, only_child, parted_map, room, spare, stands_each, walk, walk-leaf, with_value, NodeOf, RebuildsNode, spare_anew, spare_beside, with_array, here_now, array_replaces, Lifted, child_lifts, leaves_once_in, lifts, node_stays, IsAt, children_around, later_children, spares-single, HasLast, HasMadeRoom, KeepsPacked, SharesChildren, SplitsChild}
use Rattle.tree_node.proofs.Steps.{replaces_refl}
use Rattle.tree_split.proofs.Edges.{edge_of, last_for, last_stands, one_last}
use Rattle.tree_split.proofs.PackedSplits.{all_held}

-- the child is what it was to all that look for pairs, and has room
pub record IsRebuilt {K V : Type 0} {LEN : ℕ} (cmp : K → K → Ordering) (level : ℕ) (old new : TreeArenas K V LEN) (x : ℕ) : Type 0 where
  pub pairs : walk level new x ≡ walk level old x
  pub keeps : KeepsBounds cmp level old new x
  pub replaces : Replaces level old new (x ∷ []) (x ∷ [])
  pub spares : spare level old x ≤ spare level new x
  pub roomy : 0 < room level new x
  pub unfilled : held level old x < LEN

module _ {K V : Type 0} {LEN : ℕ} {cmp : K → K → Ordering} (level : ℕ) (old new : TreeArenas K V LEN) (id x : ℕ)
    (part : IsPart cmp (suc level) old id) (rebuilt : IsRebuilt cmp level old new x)
    (at : IsAt (keyed part.stands.node).entries part.stands.last x) where
  abbrev front : List ℕ
  front = map (λ c. c.1) at.before

  abbrev back : List ℕ
  back = later_children at.onward part.stands.last

  was : children_of old.nodes id ≡ front ++ (x ∷ [] ++ back)
  was = children_around level old None id None part.stands x at

  same_node : get new.nodes id ≡ get old.nodes id
  same_node = node_stays level old id part front x back was new (x ∷ []) rebuilt.replaces

  lift : Lifted level old new new id front (x ∷ []) (x ∷ []) back
  lift = child_lifts level old id part front x back was new rebuilt.replaces

  same_pairs : walk (suc level) new id ≡ walk (suc level) old id
  same_pairs = rw (lift.walk_now, lift.walk_was, rebuilt.pairs) refl

  same_or_more : spare (suc level) old id ≤ spare (suc level) new id
  same_or_more = omega (arith, rebuilt.spares, lift.spare_was, lift.spare_now, spares-single level old x, spares-single level new x)

  keeps_node : KeepsBounds cmp (suc level) old new id
  keeps_node low high s =
      let each = all-append _ front (x ∷ back) (stands_each cmp level old new front lift.fronts)
      (rebuilt.keeps, stands_each cmp level old new back lift.backs) in
      node_kept s same_node (parted_map cmp (Stands cmp level old) (Stands cmp level new) low _ _ high (rw (← was, s.here, s.last_is) at each) s.parted)

  -- which no full child of a packed part is
  not_packed : (beyond : Option K) → KeepsPacked cmp beyond (suc level) old new id x
  not_packed beyond last none e =
      let full = all_held cmp beyond level old None x None (last_stands cmp level old id x last part.stands)
      (edge_of cmp level old id x last beyond e) (rw sub-one at none) in
      absurd (omega (arith, rebuilt.unfilled, full))

  pub room_made_by_rebuild : (key : K) → HasChildFor cmp key (get old.nodes id) x → HasMadeRoom cmp (suc level) old new id key
  room_made_by_rebuild key which = record {
    pairs = same_pairs;
    stands = λ low high above up_to s. keeps_node low high s;
    replaces = lift.replaces;
    spares = same_or_more;
    spends = rw same_node (omega arith);
    child = λ child routed. rw (sub-one, only_child cmp key (get old.nodes id) child x (rw same_node at routed) which) rebuilt.roomy;
    packed = λ child last none e.
        let at_x : HasLast (get old.nodes id) x = last_for cmp (suc level) (omega arith) old id x key which e in
        not_packed (Some key) at_x (rw (one_last (get old.nodes id) child x last at_x) at none) e;
  }

  pub split_by_rebuild : SharesChildren cmp (suc level) old new id x → SplitsChild cmp (suc level) old new id x
  split_by_rebuild shares = record {
    shares = shares;
    pairs = same_pairs;
    keeps = keeps_node;
    replaces = lift.replaces;
    spares = same_or_more;
    spends = rw same_node (omega arith);
    roomy = rw sub-one rebuilt.roomy;
    gained = λ z inside outside. absurd (omega (arith, inside, rw (← same_node) at outside));
    routed = λ key which z routed. (room_made_by_rebuild key which).child z routed;
    packed = not_packed;
  }

-- a leaf whose array is built anew
module _ {K V : Type 0} {LEN : ℕ} (a : TreeArenas K V LEN) (x : ℕ) (leaf : LeafOf K V LEN) (was : get a.leaves x ≡ Some leaf) where
  abbrev anew : TreeArenas K V LEN
  anew = with_array a x leaf (in_order leaf.array.entries)

  here : get anew.leaves x ≡ Some (record leaf { array = in_order leaf.array.entries })
  here = here_now a x leaf (in_order leaf.array.entries) was

  pub leaf_rebuilt : {cmp : K → K → Ordering} → IsSound cmp LEN leaf.array → length leaf.array.entries ≤ limit LEN → IsRebuilt cmp 0 a anew x
  leaf_rebuilt sound few = record {
    pairs = rw (walk-leaf anew x _ here, walk-leaf a x leaf was) refl;
    keeps = λ low high s.
        let is : s.leaf ≡ leaf = cc (s.here, was) in
        record { leaf = _; here = here; few = rw is at s.few; ascending = rw is at s.ascending; above = rw is at s.above; up_to = rw is at s.up_to };
    replaces = array_replaces a x leaf (in_order leaf.array.entries) was;
    spares = omega (arith, spare_beside a x leaf was sound.entries_few sound.few, spare_anew anew x _ leaf.array.entries here refl);
    roomy = rw (here, length-map leaf.array.entries Some) (omega (arith, few, sound.is_len));
    unfilled = rw was (omega (arith, few, sound.is_len));
  }

-- a node whose array is built anew
module _ {K V : Type 0} {LEN : ℕ} {cmp : K → K → Ordering} (level : ℕ) (a : TreeArenas K V LEN) (x : ℕ) (part : IsPart cmp (suc level) a x) (node node' : NodeOf K LEN) (was : get a.nodes x ≡ Some node)
    (rebuilds : RebuildsNode node node') where
  abbrev new : TreeArenas K V LEN
  new = record a { nodes = with_value a.nodes x node' }

  written : Updates a.nodes new.nodes x (Some node')
  written = Updates-with_value a.nodes x node' (rw was refl)

  entries_same : (keyed node').entries ≡ (keyed node).entries
  entries_same = ap (λ (k : Arrivals K ℕ). k.entries) rebuilds.rebuilt

  pub same_children : children_of new.nodes x ≡ children_of a.nodes x
  same_children = rw (written.changed, was, entries_same, rebuilds.last) refl

  -- its children stay, all of which stand behind none that changed
  kept : Lifted level a a new x [] [] [] (children_of a.nodes x)
  kept =
      lifts level a a new x [] [] [] (children_of a.nodes x) (replaces_refl level a []) refl same_children part.nodes_once (leaves_once_in (suc level) a x part)
      written.others (rw written.changed refl) refl

  pub node_rebuilt : IsLen LEN → length (keyed node).entries ≤ limit LEN → IsRebuilt cmp (suc level) a new x
  node_rebuilt is_len few = record {
    pairs = kept.walk_now ∙ sym kept.walk_was;
    keeps = λ low high s.
        let is = node_is level a low x high s node was in
        let each = rw (s.here, s.last_is) at (stands_each cmp level a new (children_of a.nodes x) kept.backs) in
        node_made written.changed (rebuilds.kind level (rw is at s.kind)) (rebuilds.last ∙ rw is at s.last_is) (rw (entries_same, is) refl) s.few
        (parted_map cmp (Stands cmp level a) (Stands cmp level new) low _ _ high each s.parted);
    replaces = kept.replaces;
    spares = omega (arith, kept.spare_was, kept.spare_now);
    roomy =
        let last_is = rw (node_is level a None x None part.stands node was) at part.stands.last_is in
        rw (written.changed, rebuilds.last, last_is, rebuilds.rebuilt, length-map (keyed node).entries Some)
        (omega (arith, few, is_len));
    unfilled = rw was (omega (arith, few, is_len));
  }
