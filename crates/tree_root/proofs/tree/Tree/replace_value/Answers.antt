use Rattle.std.proofs.Common.{◌≡◌, ◌∙◌, Some, refl, sym}
use Rattle.tree_model.specs.Pairs.{IsAbsent}
use Rattle.tree_node.proofs.Children.{leaf_there}
use Rattle.tree_node.proofs.Sizes.{fits}
use Rattle.tree_remove.proofs.EntryPlaces.{absent_retired}
use Rattle.tree_remove.proofs.Ways.{leaf_on_way}
use Rattle.tree_root.specs.Trees.{pairs_of}
use Rattle.tree_root.proofs.Storing.{part_or_retired}
use Rattle.tree_root.proofs.Valued.{absent_in_leaf, nothing_set, present_in_leaf, read_alone, value_set}
use Rattle.tree_root.proofs.tree.Tree.replace_value.Goals as goal

pub leaf_for-requires : goal.leaf_for-requires
leaf_for-requires g c =
    let tree = rw c.in-Some.is at c.requires in
    (search fits, (search fits, (tree.top.0, part_or_retired g.K.Ord.cmp c.args.self.now.arenas c.in-Some.root.id c.in-Some.root.level tree)))

pub returns-in_default-leaf_for-clause-pairs : goal.returns-in_default-leaf_for-clause-pairs
returns-in_default-leaf_for-clause-pairs g c =
    let tree = rw c.in-Some.is at c.requires in
    let absent : IsAbsent g.K.Ord.cmp (pairs_of c.args.self.now) c.args.key.now = rw c.in-Some.is (absent_retired g.met.K.Ord.total c.args.self.now.arenas c.args.key.now c.in-Some.root.level tree.top.0 c.in-Some.root.id c.in_default-leaf_for.ensures.way) in
    rw absent (refl, refl)

pub leaf_mut-requires : goal.leaf_mut-requires
leaf_mut-requires g c =
    let tree = rw c.in-Some.is at c.requires in
    let place = c.in-Some-leaf_for in
    let part = leaf_on_way g.met.K.Ord.total c.args.self.now.arenas c.args.key.now place.place.leaf c.in-Some.root.level tree.top.0 c.in-Some.root.id place.place.node place.ensures.child.0 place.ensures.way place.ensures.child.1 in
    (search fits, (search fits, leaf_there c.args.self.now.arenas place.place.leaf _ _ part.stands))

pub array_mut-array-requires : goal.array_mut-array-requires
array_mut-array-requires g c = search fits

pub returns-in-None-clause-keys : goal.returns-in-None-clause-keys
returns-in-None-clause-keys g c =
    let place = c.in-Some-leaf_for in
    rw c.array_mut-array.ensures.value (nothing_set g.K.Ord.cmp c.args.self.now _ c.requires refl
    (read_alone g.met.K.Ord.total c.args.self.now c.requires c.args.key.now c.in-Some.root.id c.in-Some.root.level place.place.node place.place.leaf c.in-Some.is (place.ensures.child.0, place.ensures.way, place.ensures.child.1) c.leaf_mut.result.now c.leaf_mut.ensures.value)).0

pub returns-in-None-clause-pairs : goal.returns-in-None-clause-pairs
returns-in-None-clause-pairs g c =
    let place = c.in-Some-leaf_for in
    let absent : IsAbsent g.K.Ord.cmp (pairs_of c.args.self.now) c.args.key.now =
    absent_in_leaf g.met.K.Ord.total c.args.self.now c.requires c.args.key.now c.in-Some.root.id c.in-Some.root.level place.place.node place.place.leaf c.in-Some.is (place.ensures.child.0, place.ensures.way, place.ensures.child.1) c.leaf_mut.result.now c.leaf_mut.ensures.value
    (rw c.array_mut-array.ensures.value at c.in-None.ensures) in
    let kept = nothing_set g.K.Ord.cmp c.args.self.now (record c.args.self.now { arenas = _ }) c.requires refl
    (read_alone g.met.K.Ord.total c.args.self.now c.requires c.args.key.now c.in-Some.root.id c.in-Some.root.level place.place.node place.place.leaf c.in-Some.is (place.ensures.child.0, place.ensures.way, place.ensures.child.1) c.leaf_mut.result.now c.leaf_mut.ensures.value) in
    rw absent (refl, rw c.array_mut-array.ensures.value kept.1)

pub returns-in-Some-slot_of-clause-keys : goal.returns-in-Some-slot_of-clause-keys
returns-in-Some-slot_of-clause-keys g c =
    let place = c.in-Some-leaf_for in
    let found = c.in-Some-slot_of.ensures in
    let set = c.set_val.ensures in
    let is : found.0 ≡ (set.0, c.set_val.result) = let both : Some found.0 ≡ Some (set.0, c.set_val.result) = sym found.2 ∙ set.1 in cc in
    rw (set.2, c.array_mut-array.ensures.value) (value_set g.met.K.Ord.total c.args.self.now c.requires c.args.key.now c.in-Some.root.id c.in-Some.root.level place.place.node place.place.leaf c.in-Some.is (place.ensures.child.0, place.ensures.way, place.ensures.child.1) c.leaf_mut.result.now c.leaf_mut.ensures.value c.in-Some-slot_of.slot set.0 c.set_val.result c.args.val (rw is at found.1) (rw c.array_mut-array.ensures.value at set.1) (rw (is, c.array_mut-array.ensures.value) at found.3)).0

pub returns-in-Some-slot_of-clause-pairs : goal.returns-in-Some-slot_of-clause-pairs
returns-in-Some-slot_of-clause-pairs g c =
    let place = c.in-Some-leaf_for in
    let found = c.in-Some-slot_of.ensures in
    let set = c.set_val.ensures in
    let is : found.0 ≡ (set.0, c.set_val.result) = let both : Some found.0 ≡ Some (set.0, c.set_val.result) = sym found.2 ∙ set.1 in cc in
    rw (present_in_leaf g.met.K.Ord.total c.args.self.now c.requires c.args.key.now c.in-Some.root.id c.in-Some.root.level place.place.node place.place.leaf c.in-Some.is (place.ensures.child.0, place.ensures.way, place.ensures.child.1) c.leaf_mut.result.now c.leaf_mut.ensures.value c.in-Some-slot_of.slot set.0 c.set_val.result c.args.val (rw is at found.1) (rw c.array_mut-array.ensures.value at set.1) (rw (is, c.array_mut-array.ensures.value) at found.3)) (refl, rw (set.2, c.array_mut-array.ensures.value) (value_set g.met.K.Ord.total c.args.self.now c.requires c.args.key.now c.in-Some.root.id c.in-Some.root.level place.place.node place.place.leaf c.in-Some.is (place.ensures.child.0, place.ensures.way, place.ensures.child.1) c.leaf_mut.result.now c.leaf_mut.ensures.value c.in-Some-slot_of.slot set.0 c.set_val.result c.args.val (rw is at found.1) (rw c.array_mut-array.ensures.value at set.1) (rw (is, c.array_mut-array.ensures.value) at found.3)).1)

pub leaf_mut-requires-room-N-Destruct : goal.leaf_mut-requires-room-N-Destruct
leaf_mut-requires-room-N-Destruct g c κs within = search fits

pub slot_of-requires : goal.slot_of-requires
slot_of-requires g c = search fits

pub set_val-requires : goal.set_val-requires
set_val-requires g c =
    let found = c.in-Some-slot_of.ensures in
    (search fits, rw found.2 refl)
