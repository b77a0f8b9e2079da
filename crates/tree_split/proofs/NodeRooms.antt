-- A node over nodes that makes room in a child: the child is split or built anew.
use Rattle.std.proofs.Common.{◌≡◌, ℕ, suc, ◌<◌, ◌≤◌, map, length, None, Some, IsSome, refl, sym, ◌∙◌, arith, sub-one, inl, inr, Ordering}
use Rattle.tree_split.proofs.Common.{HasKind, HasRoom, IsAbsent, IsAt, IsLen, IsPart, IsSound, IsTotalOrder, PartsChild, PutsChild, RebuildsNode, SplitsChild, TreeArenas, Updates, Updates-with_value, absent_here, agrees_here, boundary, changed, child_placed, children_around, children_of, edge_of, gains_low, get, keyed, last_place, later_children, limit, node_rebuilt, packed_split, place_of, room, same_children, split_by_rebuild, stays, times, with_value, ⊤}
use Rattle.tree_node.specs.declared.node.NodeOf.{NodeOf}
use Rattle.tree_node.specs.declared.node.NodeOf.TheVariants.{Internal, Leaf}
use Rattle.slab.specs.Slab.{HasRoomFor}
use Rattle.tree_leaf.proofs.Rooms.{rewritten}
use Rattle.tree_leaf.specs.Arena.{Gains, HasPlaces, KeepsBoth}
use Rattle.tree_node.specs.Changes.{CutsNode}
use Rattle.tree_node.proofs.Unchanged.{unchanged_by_keeping}
use Rattle.tree_split.specs.DividesNode.{DividesNode}
use Rattle.tree_split.proofs.NodeSplits.{children_given, children_shared, edge_goes_on, high_node_room, low_node_room, node_splits_low}

-- a level above that of the leaf nodes
pub two_up : (level : ℕ) → 1 < level → (below : ℕ) × (level ≡ suc (suc below))
two_up (suc (suc level)) more = (level, refl)
two_up level more = absurd (omega (arith, more))

-- a node that is cut after a reserve, and whose lower part is added, is divided
module _ {K V : Type 0} {LEN : ℕ} (old reserved : TreeArenas K V LEN) (x : ℕ) (node high : NodeOf K LEN)
    (keeps : KeepsBoth old reserved) (there : get reserved.nodes x ≡ Some node) where
  written : Updates reserved.nodes (with_value reserved.nodes x high) x (Some high)
  written = Updates-with_value reserved.nodes x high (rw there refl)

  -- the write takes none of the room that was reserved
  pub room_after_cut : HasPlaces reserved 0 1 → HasRoomFor (with_value reserved.nodes x high) 1
  room_after_cut places = let room = rewritten reserved.nodes x high (rw there refl) in omega (arith, room.counted, places.nodes)

  pub node_divided : (mid : TreeArenas K V LEN) (y place : ℕ) (low : NodeOf K LEN) (separator : K) → CutsNode node place high low separator
      → Gains (with_value reserved.nodes x high) mid.nodes y low → mid.leaves ≡ reserved.leaves → DividesNode old mid x place separator y
  node_divided mid y place low separator cuts gains leaves =
      let same = unchanged_by_keeping old reserved keeps in
      let apart : x ≡ y → ⊥ = λ at_y. cc (written.changed, rw (← at_y) at gains.was_free) in
      record {
        node = node;
        low = low;
        high = high;
        was = sym (same.nodes x) ∙ there;
        was_free = sym (same.nodes y) ∙ sym (written.others y (λ at_x. apart (sym at_x))) ∙ gains.was_free;
        cuts = cuts;
        low_here = gains.updates.changed;
        high_here = gains.updates.others x apart ∙ written.changed;
        others = λ n not_x not_y. gains.updates.others n not_y ∙ written.others n not_x ∙ same.nodes n;
        leaves = λ n. rw leaves (same.leaves n);
      }

module _ {K V : Type 0} {LEN : ℕ} {cmp : K → K → Ordering} (o : IsTotalOrder cmp) {level : ℕ} {old : TreeArenas K V LEN} {parent : ℕ} (x : ℕ)
    (part : IsPart cmp (suc (suc level)) old parent) (inside : 0 < times x (children_of old.nodes parent)) where
  at : IsAt (keyed part.stands.node).entries part.stands.last x
  at = place_of (keyed part.stands.node).entries part.stands.last x (rw (part.stands.here, part.stands.last_is) at inside)

  -- the child is a part itself
  child_part : IsPart cmp (suc level) old x
  child_part =
      child_placed (suc level) old parent part (map (λ c. c.1) at.before) x (later_children at.onward part.stands.last)
      (children_around (suc level) old None parent None part.stands x at)

  pub parent_used : IsSome (get old.nodes parent)
  parent_used = rw part.stands.here refl

  pub child_used : IsSome (get old.nodes x)
  child_used = rw child_part.stands.here refl

  -- it is built anew
  pub split_anew : (node node' : NodeOf K LEN) → get old.nodes x ≡ Some node → RebuildsNode node node' → IsLen LEN → length (keyed node).entries ≤ limit LEN
      → SplitsChild cmp (suc (suc level)) old (record old { nodes = with_value old.nodes x node' }) parent x
  split_anew node node' was_child rebuilds is_len few =
      let rebuilt = node_rebuilt level old x child_part node node' was_child rebuilds is_len few in
      split_by_rebuild (suc level) old (record old { nodes = with_value old.nodes x node' }) parent x part rebuilt at
      (inl (rw (sub-one, was_child) few, same_children level old x child_part node node' was_child rebuilds))

  -- it gave its lower children to a new one
  module _ {mid : TreeArenas K V LEN} {y place : ℕ} {separator : K} (d : DividesNode old mid x place separator y) where
    parts : PartsChild cmp (λ low high. ⊤) (suc level) old mid parent x y separator
    parts = record { part = part; splits = node_splits_low o child_part d; at = at; inner = λ low high any. tt; within = tt }

    pub parent_stays : get mid.nodes parent ≡ get old.nodes parent
    parent_stays = stays o parts

    module _ (above : NodeOf K LEN) (is_above : get mid.nodes parent ≡ Some above) where
      pub above_kind : HasKind 1 above
      above_kind = any_inner level above (let is : part.stands.node ≡ above = cc (parent_stays, is_above, part.stands.here) in rw is at part.stands.kind)
        where
          any_inner : (level : ℕ) (node : NodeOf K LEN) → HasKind (suc level) node → HasKind 1 node
          any_inner level (Internal n) kind = tt
          any_inner level (Leaf n) kind = absurd kind

      pub separator_is_new : IsAbsent cmp (keyed above).entries separator
      separator_is_new = absent_here o parts above is_above

      -- read before, the child could be split, and the parent could take one more
      module _ (above' : NodeOf K LEN) (puts : PutsChild cmp above above' separator y) (some : HasRoom LEN (keyed above))
          (node : NodeOf K LEN) (read : get old.nodes x ≡ Some node) (within : place < length (keyed node).entries)
          (sound : IsSound cmp LEN (keyed node)) (rule : place ≡ (boundary cmp LEN (keyed node)).0) where
        abbrev new : TreeArenas K V LEN
        new = record mid { nodes = with_value mid.nodes parent above' }

        same : node ≡ d.node
        same = cc (read, d.was)

        inside_d : place < length (keyed d.node).entries
        inside_d = rw same at within

        pub split_in_two : SplitsChild cmp (suc (suc level)) old new parent x
        split_in_two =
            let gains = gains_low o parts above is_above above' puts in
            let low = low_node_room o child_part d inside_d in
            let high = high_node_room o child_part d inside_d in
            let is : part.stands.node ≡ above = cc (parent_stays, is_above, part.stands.here) in
            let room_there : 0 < room (suc (suc level)) old parent = rw (part.stands.here, part.stands.last_is, is, some.1) some.0 in
            let both = changed o parts above is_above above' puts in
            let given : length (children_of new.nodes y) ≡ suc (boundary cmp LEN (keyed node)).0 =
            rw (agrees_here level mid new y both.0, ← rule) (children_given o child_part d inside_d) in
            record {
              shares = inr (room_there, y, d.was_free, rw read given, rw (agrees_here level mid new y both.0, agrees_here level mid new x both.1.0) (children_shared o child_part d));
              packed = λ beyond last none e.
                  let edge = edge_of cmp (suc level) old parent x last beyond e in
                  let on = edge_goes_on o child_part d beyond edge (rw sub-one at none) sound.is_len (rw same at sound.ascending) (rw same at rule) in
                  let place = last_place (suc level) old parent part.stands x last in
                  let at_end : PartsChild cmp (λ low high. ⊤) (suc level) old mid parent x y separator =
                  record { part = part; splits = node_splits_low o child_part d; at = place; inner = λ low high any. tt; within = tt } in
                  packed_split o at_end above is_above above' puts refl beyond last e on.0 on.1 on.2;
              pairs = gains.pairs;
              keeps = λ low high s. gains.stands low high tt s;
              replaces = gains.replaces;
              spares = gains.spares;
              spends = gains.spends;
              roomy = rw sub-one (gains.high_room high);
              gained = λ z inside outside. rw (sub-one, gains.gained z inside outside) (gains.low_room low);
              routed = λ key which z routed. rw sub-one (gains.routed key z which routed (λ from. low) high);
            }
