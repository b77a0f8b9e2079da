use Rattle.tree_cut.proofs.Common.{rules, ◌-◌, ◌≤◌, length, None, arith, get, fits, keyed_of}
use Rattle.tree_cut.proofs.Frees.{part_once}
use Rattle.tree_cut.proofs.CutLoop.{finishes, reach, starts, steps}
use Rattle.tree_cut.proofs.Nodes.{above_leaves, at_leaves, leaf_there, node_at, node_there, node_used}
use Rattle.tree_cut.proofs.OneChild.{child_at, empty_drop, part_left, slot_told}
use Rattle.tree_cut.proofs.cutting.+cutting.Goals.{cut_child-else-keyed-2-via-then-keyed-2+else-is_empty, cut_child-else-keyed-2-via-else-keyed-2}
use Rattle.tree_cut.proofs.cutting.+cutting.Goals as goal

pub cut_child-node-node-requires : goal.cut_child-node-node-requires
cut_child-node-node-requires g t c = search (rules, node_used g.K.Ord.cmp c.args.level c.args.arenas.now c.args.id c.requires.node c.requires.part.stands)

pub cut_child-child_at-child-requires : goal.cut_child-child_at-child-requires
cut_child-child_at-child-requires g t c =
    let node = node_at g.K.Ord.cmp c.args.level c.args.arenas.now c.args.id _ c.requires.node c.requires.part.stands c.node-node.ensures in
    (search fits, (node.has_last, rw c.node-node.ensures at c.requires.place))

pub cut_child-drop_child-requires : goal.cut_child-drop_child-requires
cut_child-drop_child-requires g t c =
    let told = slot_told c.node-node.result.now c.args.place c.slot_at.result c.is_some-keyed.ensures c.slot_at.ensures in
    (search rules, (search fits, (c.requires.node, (c.requires.part, rw c.node-node.ensures (told.0 c.if-keyed.true)))))

pub cut_child-cut_part-gone-requires : goal.cut_child-cut_part-gone-requires
cut_child-cut_part-gone-requires g t c κs within =
    let here = child_at g.met.K.Ord.total c.args.level c.requires.node c.requires.part c.node-node.ensures c.child_at-child.ensures.child in
    let kind = c.child_at-child.ensures.kind (c.args.level - 1) here.kind in
    (omega (arith, c.requires.node), (within.0, (within.1, (search rules, (search rules, (search fits, (kind, here.part)))))))

pub cut_child-is_empty-requires : goal.cut_child-is_empty-requires
cut_child-is_empty-requires g t c =
    let here = child_at g.met.K.Ord.total c.args.level c.requires.node c.requires.part c.node-node.ensures c.child_at-child.ensures.child in
    let kind = c.child_at-child.ensures.kind (c.args.level - 1) here.kind in
    (search rules, (search fits, (kind, c.cut_part-gone.ensures.stands None None here.part.stands)))

pub cut_child-drop_child-requires-then-is_empty : goal.cut_child-drop_child-requires-then-is_empty
cut_child-drop_child-requires-then-is_empty g t c =
    let here = child_at g.met.K.Ord.total c.args.level c.requires.node c.requires.part c.node-node.ensures c.child_at-child.ensures.child in
    let cuts = here.cuts c.cut_part-gone.ensures in
    let stays = here.stays c.cut_part-gone.ensures.replaces in
    let told = slot_told c.node-node.result.now c.args.place c.slot_at.result c.is_some-keyed.ensures c.slot_at.ensures in
    (search rules, (search fits, (c.requires.node, (part_left cuts c.requires.part, rw stays (told.0 c.if-keyed-2.true)))))

pub cut_part-cut_leaf-requires : goal.cut_part-cut_leaf-requires
cut_part-cut_leaf-requires g t c =
    (search rules, (search fits, leaf_there g.K.Ord.cmp c.args.level c.args.arenas.now c.in-Leaf.is c.requires.kind c.requires.part.stands))

pub cut_part-count_fits-requires : goal.cut_part-count_fits-requires
cut_part-count_fits-requires g t c =
    (search rules, (search fits, (above_leaves c.args.level c.in-Node.is c.requires.kind, rw c.in-Node.is at (part_once c.requires.part))))

pub cut_part-node-node-requires : goal.cut_part-node-node-requires
cut_part-node-node-requires g t c = search (rules, node_there g.K.Ord.cmp c.args.level c.args.arenas.now c.in-Node.is c.requires.kind c.requires.part.stands)

pub cut_part-loop-place-init : goal.cut_part-loop-place-init
cut_part-loop-place-init g t c =
    starts g.met.K.Ord.total (above_leaves c.args.level c.in-Node.is c.requires.kind) (rw c.in-Node.is at c.requires.part)
    (rw c.node-node.ensures c.first_place-first.ensures) (rw c.node-node.ensures c.last_place-last.ensures.ends)

pub cut_part-cut_child-gone-requires : goal.cut_part-cut_child-gone-requires
cut_part-cut_child-gone-requires g t c κs within =
    let state = c.loop-place.invariant in
    let here : c.loop-place.place - 1 ≤ length (keyed_of (get c.loop-place.arenas.nodes c.in-Node.id)) =
    omega (arith, (reach g.met.K.Ord.total state).0, c.loop-place-test.true) in
    (omega (arith, state.inner), (within.0, (within.1, (search rules, (search rules, (search fits, (state.inner, (state.part, here))))))))

pub cut_part-overflow_add-gone : goal.cut_part-overflow_add-gone
cut_part-overflow_add-gone g t c =
    let next = steps g.met.K.Ord.total c.loop-place.invariant (omega (arith, c.loop-place-test.true)) (omega (arith, c.loop-place-test.true))
    c.narrowed.ensures.low c.narrowed.ensures.high c.cut_child-gone.ensures.cuts c.cut_child-gone.ensures.no_empty in
    omega (arith, next.counted, c.count_fits.ensures)

pub cut_part-loop-place-preserved : goal.cut_part-loop-place-preserved
cut_part-loop-place-preserved g t c =
    steps g.met.K.Ord.total c.loop-place.invariant (omega (arith, c.loop-place-test.true)) (omega (arith, c.loop-place-test.true))
    c.narrowed.ensures.low c.narrowed.ensures.high c.cut_child-gone.ensures.cuts c.cut_child-gone.ensures.no_empty

pub cut_part-returns-in-Leaf : goal.cut_part-returns-in-Leaf
cut_part-returns-in-Leaf g t c = rw (c.in-Leaf.is, at_leaves c.args.level c.in-Leaf.is c.requires.kind) c.cut_leaf.ensures

pub cut_part-returns-after-loop-place : goal.cut_part-returns-after-loop-place
cut_part-returns-after-loop-place g t c = rw c.in-Node.is (finishes g.met.K.Ord.total c.loop-place.invariant c.loop-place-test.false)

pub cut_child-returns-then-is_open : goal.cut_child-returns-then-is_open
cut_child-returns-then-is_open g t c =
    let both = c.is_open.ensures c.if-is_open.true in
    let here = child_at g.met.K.Ord.total c.args.level c.requires.node c.requires.part c.node-node.ensures c.child_at-child.ensures.child in
    record { cuts = rw (both.0, both.1) c.drop_child.ensures.drops; no_empty = λ before. c.drop_child.ensures.no_empty (here.but_one before) }

pub cut_child-returns-then-is_empty : goal.cut_child-returns-then-is_empty
cut_child-returns-then-is_empty g t c =
    let here = child_at g.met.K.Ord.total c.args.level c.requires.node c.requires.part c.node-node.ensures c.child_at-child.ensures.child in
    let cuts = here.cuts c.cut_part-gone.ensures in
    let stays = here.stays c.cut_part-gone.ensures.replaces in
    record {
      cuts = empty_drop cuts c.drop_child-then-is_empty.ensures.drops (rw stays c.child_at-child.ensures.child) (c.is_empty.ensures.empty c.if-is_empty.true);
      no_empty = λ before. c.drop_child-then-is_empty.ensures.no_empty (here.others c.cut_part-gone.ensures before);
    }

pub cut_child-returns-else-keyed-2 : goal.cut_child-returns-else-keyed-2
cut_child-returns-else-keyed-2 g t c =
    let here = child_at g.met.K.Ord.total c.args.level c.requires.node c.requires.part c.node-node.ensures c.child_at-child.ensures.child in
    record {
      cuts = here.cuts c.cut_part-gone.ensures;
      no_empty = λ before. here.left c.cut_part-gone.ensures before (λ pair found none. elim c.else-keyed-2.branch [
        | cut_child-else-keyed-2-via-then-keyed-2+else-is_empty w ↦
            cc (w.is_empty.ensures.told (c.cut_part-gone.ensures.no_empty (here.no_empty before)) none, w.if-is_empty.false)
        | cut_child-else-keyed-2-via-else-keyed-2 w ↦
            let told = slot_told c.node-node.result.now c.args.place c.slot_at.result c.is_some-keyed.ensures c.slot_at.ensures in
            cc (told.1 w.if-keyed-2.false, found)
      ]);
    }
