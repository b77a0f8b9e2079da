use Rattle.tree_remove.proofs.Common.{fits, rules}
use Rattle.tree_remove.proofs.EmptiedLeaves.{has_child, node_now, over_leaf, over_node}
use Rattle.tree_remove.proofs.emptied.+drop_emptied.Goals.{in-Some-slot, in_default-slot}
use Rattle.tree_remove.proofs.emptied.+drop_emptied.Goals as goal

pub node-requires : goal.node-requires
node-requires g t c = search (rules, node_now g.met.K.Ord.total c.requires.node c.requires.emptied.1)

pub drop_keyed_leaf-requires : goal.drop_keyed_leaf-requires
drop_keyed_leaf-requires g t c =
    let over = over_leaf g.met.K.Ord.total c.requires.node c.requires.emptied.1 c.in-Some.place.child c.in-Some.place.slot
    (rw c.in-Leaf.is at c.node.ensures) (rw c.in-Some.is at c.child_place.ensures.place) in
    (search rules, (search fits, (over.linked, rw c.in-Some-slot.is at over.has_slot)))

pub retire_if_empty-requires : goal.retire_if_empty-requires
retire_if_empty-requires g t c =
    let over = over_leaf g.met.K.Ord.total c.requires.node c.requires.emptied.1 c.in-Some.place.child c.in-Some.place.slot
    (rw c.in-Leaf.is at c.node.ensures) (rw c.in-Some.is at c.child_place.ensures.place) in (
      search fits,
      (
        search fits,
        elim c.match-place.branch [
          | in-Some-slot w ↦ rw w.arenas-is (over.part _ (over.drops _ _ w.in-Some-slot.is w.drop_keyed_leaf.ensures))
          | in_default-slot w ↦ rw w.arenas-is (over.part _ over.stays)
        ],
      ),
    )

pub drop_emptied-requires : goal.drop_emptied-requires
drop_emptied-requires g t c κs within =
    let over = over_node g.met.K.Ord.total c.requires.node c.requires.emptied.1 c.in-Some-child_place.place.child c.in-Some-child_place.place.slot
    (rw c.in-Internal.is at c.node.ensures) (rw c.in-Some-child_place.is at c.child_place-in-Internal.ensures.place) in
    (search rules, (within.0, (within.1, (search rules, (search rules, (search fits, (over.inner, (_, over.below))))))))

pub drop_child_node-requires : goal.drop_child_node-requires
drop_child_node-requires g t c =
    let over = over_node g.met.K.Ord.total c.requires.node c.requires.emptied.1 c.in-Some-child_place.place.child c.in-Some-child_place.place.slot
    (rw c.in-Internal.is at c.node.ensures) (rw c.in-Some-child_place.is at c.child_place-in-Internal.ensures.place) in
    let retired = over.retired _ (rw c.in-Retired.is at (c.drop_emptied.ensures _ over.below).removes) in
    (search rules, (search fits, (retired.0, (retired.1, retired.2))))

pub returns-in_default : goal.returns-in_default
returns-in_default g t c before e =
    let none = rw c.in_default.is at c.child_place.ensures.place in
    absurd (has_child g.met.K.Ord.total c.requires.node e (rw c.in-Leaf.is at c.node.ensures) none)

pub returns-in_default-child_place : goal.returns-in_default-child_place
returns-in_default-child_place g t c before e =
    let none = rw c.in_default-child_place.is at c.child_place-in-Internal.ensures.place in
    absurd (has_child g.met.K.Ord.total c.requires.node e (rw c.in-Internal.is at c.node.ensures) none)

pub returns-after-place : goal.returns-after-place
returns-after-place g t c before e =
    let over = over_leaf g.met.K.Ord.total c.requires.node e c.in-Some.place.child c.in-Some.place.slot
    (rw c.in-Leaf.is at c.node.ensures) (rw c.in-Some.is at c.child_place.ensures.place) in
    elim c.match-place.branch [
      | in-Some-slot w ↦ over.settled _ _ _ (rw w.arenas-is (over.drops _ _ w.in-Some-slot.is w.drop_keyed_leaf.ensures)) c.retire_if_empty.ensures
      | in_default-slot w ↦ over.settled _ _ _ (rw w.arenas-is over.stays) c.retire_if_empty.ensures
    ]

pub returns-in-Retired : goal.returns-in-Retired
returns-in-Retired g t c before e =
    let over = over_node g.met.K.Ord.total c.requires.node e c.in-Some-child_place.place.child c.in-Some-child_place.place.slot
    (rw c.in-Internal.is at c.node.ensures) (rw c.in-Some-child_place.is at c.child_place-in-Internal.ensures.place) in
    over.goes _ _ _ (rw c.in-Retired.is at (c.drop_emptied.ensures before over.below).removes) c.drop_child_node.ensures

pub returns-in_default-drop_emptied : goal.returns-in_default-drop_emptied
returns-in_default-drop_emptied g t c before e =
    let over = over_node g.met.K.Ord.total c.requires.node e c.in-Some-child_place.place.child c.in-Some-child_place.place.slot
    (rw c.in-Internal.is at c.node.ensures) (rw c.in-Some-child_place.is at c.child_place-in-Internal.ensures.place) in
    over.stays _ _ c.in_default-drop_emptied.not-Retired (c.drop_emptied.ensures before over.below).removes
