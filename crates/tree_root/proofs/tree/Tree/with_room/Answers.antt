use Rattle.std.proofs.Common.{inl, inr, refl, arith}
use Rattle.tree_node.proofs.Bare.{some_slots}
use Rattle.tree_node.proofs.Sizes.{fits}
use Rattle.tree_node.proofs.Whole.{tree_unchanged}
use Rattle.tree_root.proofs.tree.Tree.with_room.Goals as goal

pub new-tree-requires : goal.new-tree-requires
new-tree-requires g c = (search fits, c.requires)

pub returns-clause-whole : goal.returns-clause-whole
returns-clause-whole g c =
    let kept = c.in_ok-reserve.ensures.0 in
    tree_unchanged _ _ _ (record { leaves = λ n. rw kept.leaves.slots refl; nodes = λ n. rw kept.nodes.slots refl }) c.new-tree.ensures.whole

pub returns-clause-room : goal.returns-clause-room
returns-clause-room g c = rw (c.div_ceil.ensures, c.div_ceil-leaves.ensures) at c.in_ok-reserve.ensures.1

pub div_ceil-leaves-requires : goal.div_ceil-leaves-requires
div_ceil-leaves-requires g c = omega (arith, some_slots g.row.LEN c.requires)

pub overflow_sub-div_ceil : goal.overflow_sub-div_ceil
overflow_sub-div_ceil g c = omega (arith, some_slots g.row.LEN c.requires)

pub reserve-requires-room-N-Destruct : goal.reserve-requires-room-N-Destruct
reserve-requires-room-N-Destruct g c κs within = search fits

pub div_ceil-requires : goal.div_ceil-requires
div_ceil-requires g c = elim c.requires [ inl is ↦ omega (arith, is) | inr is ↦ omega (arith, is) ]

pub reserve-requires : goal.reserve-requires
reserve-requires g c = search fits

pub drop-tree-requires : goal.drop-tree-requires
drop-tree-requires g c = search fits
