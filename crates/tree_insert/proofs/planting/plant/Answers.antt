use Rattle.tree_insert.proofs.Common.{Arrivals, HasPlaces, Leaf, None, Slab, Updates-with_value, ap, arith, bare_leaves, bare_nodes, children_fit, false≢true, fits, get, has_only, no_other, refl}
use Rattle.tree_insert.proofs.Common.{some_slots, unchanged_by_keeping, with_value, ◌≤◌, ◌∙◌}
use Rattle.tree_insert.proofs.Plantings.{packed_first}
use Rattle.tree_insert.proofs.planting.plant.Goals.{then-is_none, else-is_none}
use Rattle.tree_insert.proofs.planting.plant.Goals as goal

pub returns-in_default-clause-plants : goal.returns-in_default-clause-plants
returns-in_default-clause-plants g c =
    let kept = unchanged_by_keeping c.args.arenas.now c.reserve.new.self c.in_default.ensures.0 in
    let few : c.if-is_none.nodes ≤ 1 = elim c.if-is_none.branch [ then-is_none w ↦ omega (arith, w.nodes-is) | else-is_none w ↦ omega (arith, w.nodes-is) ] in
    let fewer : HasPlaces c.args.arenas.now 1 1 → HasPlaces c.args.arenas.now 1 c.if-is_none.nodes = λ had. record { leaves = had.leaves; nodes = omega (arith, had.nodes, few) } in
    (kept, refl, refl, λ had. c.in_default.ensures.1 (fewer had))

pub leaf_with-requires : goal.leaf_with-requires
leaf_with-requires g c = (search fits, c.requires.len)

pub add_leaf-requires : goal.add_leaf-requires
add_leaf-requires g c = search fits

pub drop-requires-in_default-add_node-2 : goal.drop-requires-in_default-add_node-2
drop-requires-in_default-add_node-2 g c = search children_fit

pub unreachable-requires-in_default-add_node : goal.unreachable-requires-in_default-add_node
unreachable-requires-in_default-add_node g c =
    elim c.if-is_none.branch [
      | then-is_none w ↦ c.in_default-add_node.ensures.nodes.no_room (rw c.add_leaf.ensures.nodes (rw w.nodes-is at c.in-Ok.ensures.1.nodes))
      | else-is_none w ↦ false≢true (rw (w.if-is_none.false, c.in-None.is) at c.is_none.ensures)
    ]

pub returns-in-Ok-add_node-clause-plants : goal.returns-in-Ok-add_node-clause-plants
returns-in-Ok-add_node-clause-plants g c =
    let kept = unchanged_by_keeping c.args.arenas.now c.reserve.new.self c.in-Ok.ensures.0 in
    let leaf = c.in-Ok-add_leaf.ensures.leaves in
    let node = c.in-Ok-add_node.ensures.nodes in
    let bare = rw c.in-None.is at c.requires.tree in
    has_only g.K.Ord.cmp c.add_node.new.self c.in-Ok-add_node.id (Leaf c.new.result) c.in-Ok-add_leaf.leaf c.leaf_with.result c.args.key c.args.val
    node.updates.changed tt (ap (λ (a : Arrivals _ _). a.entries) c.new.ensures.keyed) c.new.ensures.unbounded
    (rw c.add_node.ensures.leaves leaf.updates.changed) c.leaf_with.ensures.array c.leaf_with.ensures.prev c.leaf_with.ensures.next (some_slots _ c.requires.len)
    (λ n differs. node.updates.others n differs ∙ ap (λ (s : Slab _). get s n) c.add_leaf.ensures.nodes ∙ kept.nodes n ∙ bare_nodes c.args.arenas.now n bare)
    (λ n differs. rw c.add_node.ensures.leaves (leaf.updates.others n differs ∙ kept.leaves n ∙ bare_leaves c.args.arenas.now None bare refl n))

pub returns-in-Ok-add_node-clause-packed : goal.returns-in-Ok-add_node-clause-packed
returns-in-Ok-add_node-clause-packed g c =
    packed_first g.met.K.Ord.total c.add_node.new.self c.in-Ok-add_node.id _ c.in-Ok-add_leaf.leaf c.leaf_with.result c.args.key c.args.val
    c.in-Ok-add_node.ensures.nodes.updates.changed c.new.ensures.keyed c.new.ensures.unbounded
    (rw c.add_node.ensures.leaves c.in-Ok-add_leaf.ensures.leaves.updates.changed) c.leaf_with.ensures.array

pub node_mut-requires : goal.node_mut-requires
node_mut-requires g c =
    let kept = unchanged_by_keeping c.args.arenas.now c.reserve.new.self c.in-Ok.ensures.0 in
    let retired = no_other c.args.arenas.now _ (rw c.in-Some.is at c.requires.tree) (rw c.in-Some.is at c.requires.bare) in
    (search fits, rw (c.add_leaf.ensures.nodes, kept.nodes c.in-Some.retired.id) retired.here)

pub drop-node_mut-requires : goal.drop-node_mut-requires
drop-node_mut-requires g c = search children_fit

pub drop-requires-in-Some : goal.drop-requires-in-Some
drop-requires-in-Some g c = search children_fit

pub returns-in-Some-clause-plants : goal.returns-in-Some-clause-plants
returns-in-Some-clause-plants g c =
    let kept = unchanged_by_keeping c.args.arenas.now c.reserve.new.self c.in-Ok.ensures.0 in
    let retired = no_other c.args.arenas.now _ (rw c.in-Some.is at c.requires.tree) (rw c.in-Some.is at c.requires.bare) in
    let id = c.in-Some.retired.id in
    let leaf = c.in-Ok-add_leaf.ensures.leaves in
    let node = Updates-with_value c.add_leaf.new.self.nodes id (Leaf c.new.result) (rw (c.add_leaf.ensures.nodes, kept.nodes id) retired.here) in
    has_only g.K.Ord.cmp _ id (Leaf c.new.result) c.in-Ok-add_leaf.leaf c.leaf_with.result c.args.key c.args.val
    node.changed tt (ap (λ (a : Arrivals _ _). a.entries) c.new.ensures.keyed) c.new.ensures.unbounded
    leaf.updates.changed c.leaf_with.ensures.array c.leaf_with.ensures.prev c.leaf_with.ensures.next (some_slots _ c.requires.len)
    (λ n differs. node.others n differs ∙ ap (λ (s : Slab _). get s n) c.add_leaf.ensures.nodes ∙ kept.nodes n ∙ retired.nodes n differs)
    (λ n differs. leaf.updates.others n differs ∙ kept.leaves n ∙ retired.leaves n)

pub returns-in-Some-clause-packed : goal.returns-in-Some-clause-packed
returns-in-Some-clause-packed g c =
    let kept = unchanged_by_keeping c.args.arenas.now c.reserve.new.self c.in-Ok.ensures.0 in
    let retired = no_other c.args.arenas.now _ (rw c.in-Some.is at c.requires.tree) (rw c.in-Some.is at c.requires.bare) in
    let id = c.in-Some.retired.id in
    let node = Updates-with_value c.add_leaf.new.self.nodes id (Leaf c.new.result) (rw (c.add_leaf.ensures.nodes, kept.nodes id) retired.here) in
    packed_first g.met.K.Ord.total (record c.add_leaf.new.self { nodes = with_value c.add_leaf.new.self.nodes id (Leaf c.new.result) }) id _ c.in-Ok-add_leaf.leaf c.leaf_with.result
    c.args.key c.args.val node.changed c.new.ensures.keyed c.new.ensures.unbounded c.in-Ok-add_leaf.ensures.leaves.updates.changed c.leaf_with.ensures.array
