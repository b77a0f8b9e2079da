use Rattle.tree_insert.proofs.Common.{HasPlaces, arith, fits, inl, node_used, on_err, rules, unchanged_by_keeping, ◌+◌, ◌<◌}
use Rattle.slab.specs.Slab.{HasRoomFor}
use Rattle.tree_insert.proofs.Raises.{raised_top}
use Rattle.tree_node.proofs.Bounds.{part_levels}
use Rattle.tree_insert.proofs.root.split_root_at.Goals as goal

pub node-requires : goal.node-requires
node-requires g c = (search fits, node_used c.args.depth c.requires.node c.args.arenas.now c.args.root (inl c.requires.part))

pub new-top-requires : goal.new-top-requires
new-top-requires g c = (search (rules, fits), c.slots_left.ensures.len)

pub unreachable-requires : goal.unreachable-requires
unreachable-requires g c =
    let two = c.in_ok-reserve.ensures.1.nodes in
    let one : HasRoomFor c.reserve.new.self.nodes 1 = omega (arith, two) in
    c.in_default.ensures.nodes.no_room one

pub split_child-requires : goal.split_child-requires
split_child-requires g c =
    let top = raised_top c.args.depth c.requires.node c.slots_left.ensures.len c.add_node.new.self c.requires.part c.in_ok-reserve.ensures.0
    c.in-Ok.ensures.nodes c.in-Ok.ensures.leaves c.new-top.ensures.keyed c.new-top.ensures.unbounded in
    let deep : 1 < c.args.depth + 1 = omega (arith, c.requires.node) in
    (search rules, (search fits, ((c.args.depth + 1, deep, top.part), top.inside)))

pub unreachable-requires-in-Ok-false : goal.unreachable-requires-in-Ok-false
unreachable-requires-in-Ok-false g c =
    let top = raised_top c.args.depth c.requires.node c.slots_left.ensures.len c.add_node.new.self c.requires.part c.in_ok-reserve.ensures.0
    c.in-Ok.ensures.nodes c.in-Ok.ensures.leaves c.new-top.ensures.keyed c.new-top.ensures.unbounded in
    let none = rw c.in-Ok-false.field-0-test at (c.in-Ok-false.ensures.done (c.args.depth + 1) (omega (arith, c.requires.node)) top.part) in
    omega (arith, none.full, top.roomy)

pub unreachable-requires-in-Err : goal.unreachable-requires-in-Err
unreachable-requires-in-Err g c =
    let had = c.in_ok-reserve.ensures.1 in
    let two : HasRoomFor c.reserve.new.self.nodes (1 + 1) = omega (arith, had.nodes) in
    let places : HasPlaces c.add_node.new.self 0 1 = record { leaves = rw c.in-Ok.ensures.leaves had.leaves; nodes = c.in-Ok.ensures.nodes.room 1 two } in
    cc (c.in-Err.ensures.places places)

pub returns-clause-done : goal.returns-clause-done
returns-clause-done g c =
    let top = raised_top c.args.depth c.requires.node c.slots_left.ensures.len c.add_node.new.self c.requires.part c.in_ok-reserve.ensures.0
    c.in-Ok.ensures.nodes c.in-Ok.ensures.leaves c.new-top.ensures.keyed c.new-top.ensures.unbounded in
    let split = rw c.in-Ok-true.field-0-test at (c.in-Ok-true.ensures.done (c.args.depth + 1) (omega (arith, c.requires.node)) top.part) in
    top.raises_by c.split_child.new.arenas split c.split_child.ensures.leaves

pub returns-clause-levels : goal.returns-clause-levels
returns-clause-levels g c =
    let top = raised_top c.args.depth c.requires.node c.slots_left.ensures.len c.add_node.new.self c.requires.part c.in_ok-reserve.ensures.0
    c.in-Ok.ensures.nodes c.in-Ok.ensures.leaves c.new-top.ensures.keyed c.new-top.ensures.unbounded in
    omega (arith, part_levels g.K.Ord.cmp c.add_node.new.self (c.args.depth + 1) c.in-Ok.id top.part, c.node_count.ensures, c.node_count.type_inv)

pub returns-in_err-reserve-clause-err : goal.returns-in_err-reserve-clause-err
returns-in_err-reserve-clause-err g c = on_err c.from_residual.result (unchanged_by_keeping _ _ c.in_err-reserve.ensures.0)

pub returns-in_err-reserve-clause-places : goal.returns-in_err-reserve-clause-places
returns-in_err-reserve-clause-places g c had = absurd (c.in_err-reserve.ensures.1 had)
