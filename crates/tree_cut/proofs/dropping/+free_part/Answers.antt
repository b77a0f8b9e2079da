use Rattle.tree_cut.proofs.Common.{rules, ◌-◌, arith, sym, ap, ◌∙◌, length, Arrivals, fits, walk-leaf}
use Rattle.tree_cut.proofs.Frees.{all_freed, frees_leaf, next_few, next_freed, next_once, none_freed}
use Rattle.tree_cut.proofs.Nodes.{above_leaves, at_leaves, leaf_there, node_there}
use Rattle.tree_cut.proofs.dropping.+free_part.Goals as goal

pub remove_leaf-requires : goal.remove_leaf-requires
remove_leaf-requires g t c =
    (search rules, (search fits, leaf_there g.K.Ord.cmp c.args.level c.args.arenas.now c.in-Leaf.is c.requires.kind c.requires.once.stands))

pub count_fits-requires : goal.count_fits-requires
count_fits-requires g t c = (search rules, (search fits, (above_leaves c.args.level c.in-Node.is c.requires.kind, rw c.in-Node.is at c.requires.once)))

pub remove_node-node-requires : goal.remove_node-node-requires
remove_node-node-requires g t c = search (rules, node_there g.K.Ord.cmp c.args.level c.args.arenas.now c.in-Node.is c.requires.kind c.requires.once.stands)

pub loop-place-init : goal.loop-place-init
loop-place-init g t c =
    none_freed c.args.level c.in-Node.is c.requires.kind c.requires.once c.remove_node-node.ensures.nodes c.remove_node-node.ensures.leaves

pub child_at-child-requires : goal.child_at-child-requires
child_at-child-requires g t c =
    (search fits, (c.loop-place.invariant.above.has_last, omega (arith, c.loop-place-test.true, c.keyed_count-place-end.ensures.count)))

pub overflow_sub-level : goal.overflow_sub-level
overflow_sub-level g t c = above_leaves c.args.level c.in-Node.is c.requires.kind

pub free_part-gone-requires : goal.free_part-gone-requires
free_part-gone-requires g t c κs within =
    let state = c.loop-place.invariant in
    let inner = above_leaves c.args.level c.in-Node.is c.requires.kind in
    let kind = c.child_at-child.ensures.kind (c.args.level - 1) state.above.kind in
    (omega (arith, inner), (within.0, (within.1, (search rules, (search rules, (search fits, (kind, next_once state c.child_at-child.ensures.child)))))))

pub overflow_add-gone : goal.overflow_add-gone
overflow_add-gone g t c =
    let few = rw c.in-Node.is at (next_few c.loop-place.invariant c.child_at-child.ensures.child) in
    omega (arith, few, c.free_part-gone.ensures.gone, c.count_fits.ensures)

pub loop-place-preserved : goal.loop-place-preserved
loop-place-preserved g t c =
    next_freed c.loop-place.invariant c.child_at-child.ensures.child c.free_part-gone.ensures.frees c.free_part-gone.ensures.gone

pub returns-in-Leaf : goal.returns-in-Leaf
returns-in-Leaf g t c =
    let walked = walk-leaf c.args.arenas.now c.in-Leaf.id _ c.remove_leaf.ensures.leaves.here in
    rw (c.in-Leaf.is, at_leaves c.args.level c.in-Leaf.is c.requires.kind) (record {
      frees = frees_leaf c.remove_leaf.ensures.leaves c.remove_leaf.ensures.nodes;
      gone = c.len.ensures ∙ ap (λ (array : Arrivals _ _). length array.entries) c.array.ensures ∙ sym (ap length walked);
    })

pub returns-after-loop-place : goal.returns-after-loop-place
returns-after-loop-place g t c =
    let all = all_freed c.loop-place.invariant (omega (arith, c.loop-place-test.false, c.keyed_count-place-end.ensures.count)) in
    record { frees = all.0; gone = all.1 }
