use Rattle.std.proofs.Common.{rules, ◌≡◌, ◌-◌, ◌<◌, suc, IsSome, arith, refl}
use Rattle.tree_node.proofs.DescentWords.{get, fits, Internal, Leaf}
use Rattle.tree_node.proofs.Routes.{routed_past}
use Rattle.tree_node.proofs.Ways.{arrives, given, goes_down, is_there, not_internal, not_leaf, starts, stops, stops_at, whole}
use Rattle.tree_node.proofs.descent.leaf_for.Goals as goal

pub loop-node-init : goal.loop-node-init
loop-node-init g c =
    let same : suc (c.args.level - 1) ≡ c.args.level = omega (arith, c.requires.node) in
    rw same (starts g.K.Ord.cmp c.args.arenas.now c.args.key.now c.args.level c.args.id c.requires.node (given g.met.K.Ord.total c.args.arenas.now c.args.key.now c.args.level c.args.id c.requires.part))

pub node-requires : goal.node-requires
node-requires g c =
    let there : IsSome (get c.args.arenas.now.nodes c.loop-node.at) = is_there g.met.K.Ord.total c.loop-node.invariant in (search fits, there)

pub node-requires-in-loop-above : goal.node-requires-in-loop-above
node-requires-in-loop-above g c =
    let there : IsSome (get c.args.arenas.now.nodes c.loop-above.at) = is_there g.met.K.Ord.total c.loop-above.invariant in (search fits, there)

pub node-requires-2 : goal.node-requires-2
node-requires-2 g c =
    let there : IsSome (get c.args.arenas.now.nodes c.loop-above.at) = is_there g.met.K.Ord.total c.loop-above.invariant in (search fits, there)

pub returns-in_default : goal.returns-in_default
returns-in_default g c =
    let stop = stops_at g.met.K.Ord.total c.loop-node.invariant (Leaf c.in_default.field-0) (rw c.in_default.is at c.node.ensures) (not_leaf c.loop-node.above c.in_default.field-0 (search rules)) in
    record { way = stop; child = stop }

pub returns-in_default-unbounded_child : goal.returns-in_default-unbounded_child
returns-in_default-unbounded_child g c =
    let stop = stops g.met.K.Ord.total c.loop-node.invariant (Internal c.in-Internal.node) (rw c.in-Internal.is at c.node.ensures) (rw c.in_default-unbounded_child.is refl) in record { way = stop; child = stop }

pub returns-in_default-node : goal.returns-in_default-node
returns-in_default-node g c =
    let stop = stops_at g.met.K.Ord.total c.loop-above.invariant (Leaf c.in_default-node.field-0) (rw c.in_default-node.is at c.node-in-loop-above.ensures) (not_leaf c.loop-above.above c.in_default-node.field-0 (search rules)) in
    record { way = stop; child = stop }

pub returns-in_default-unbounded_child-2 : goal.returns-in_default-unbounded_child-2
returns-in_default-unbounded_child-2 g c =
    let stop = stops g.met.K.Ord.total c.loop-above.invariant (Internal c.in-Internal-node.node) (rw c.in-Internal-node.is at c.node-in-loop-above.ensures) (rw c.in_default-unbounded_child-2.is refl) in record { way = stop; child = stop }

pub loop-node-preserved : goal.loop-node-preserved
loop-node-preserved g c =
    let more : 0 < c.loop-node.above = search rules in
    let past = routed_past g.K.Ord.cmp c.args.key.now c.in-Internal.node.children.entries c.in-Some.unbounded (c.is_beyond.ensures.0 c.if-not-is_beyond.false) in
    goes_down g.met.K.Ord.total c.loop-node.invariant c.in-Internal.node c.in-Some.unbounded (rw c.in-Some.is past) (rw c.in-Internal.is at c.node.ensures) _ (omega (arith, more))

pub loop-above-preserved : goal.loop-above-preserved
loop-above-preserved g c =
    let more : 0 < c.loop-above.above = search rules in
    goes_down g.met.K.Ord.total c.loop-above.invariant c.in-Internal-node.node c.child_by_key-at.result (rw c.in-Some-unbounded_child.is c.child_by_key-at.ensures) (rw c.in-Internal-node.is at c.node-in-loop-above.ensures) _ (omega (arith, more))

pub returns-in_default-node-2 : goal.returns-in_default-node-2
returns-in_default-node-2 g c =
    let stop = stops_at g.met.K.Ord.total c.loop-above.invariant (Internal c.in_default-node-2.field-0) (rw c.in_default-node-2.is at c.node-2.ensures) (not_internal c.loop-above.above c.in_default-node-2.field-0 (search rules)) in
    record { way = stop; child = stop }

pub returns-in_default-unbounded_child-3 : goal.returns-in_default-unbounded_child-3
returns-in_default-unbounded_child-3 g c =
    let stop = stops g.met.K.Ord.total c.loop-above.invariant (Leaf c.in-Leaf.node) (rw c.in-Leaf.is at c.node-2.ensures) (rw c.in_default-unbounded_child-3.is refl) in record { way = stop; child = stop }

pub returns-then-is_beyond : goal.returns-then-is_beyond
returns-then-is_beyond g c =
    let past = routed_past g.K.Ord.cmp c.args.key.now c.in-Leaf.node.children.entries c.in-Some-unbounded_child-2.unbounded (c.is_beyond-then-last.ensures.0 c.if-is_beyond.true) in
    let it = arrives g.met.K.Ord.total c.loop-above.invariant c.in-Leaf.node c.in-Some-unbounded_child-2.unbounded (rw c.in-Some-unbounded_child-2.is past) (rw c.in-Leaf.is at c.node-2.ensures) in
    record { way = it.way; child = (whole g.met.K.Ord.total c.args.arenas.now c.args.key.now c.args.level c.args.id c.requires.node c.requires.part it.stands, it.which) }

pub returns : goal.returns
returns g c =
    let it = arrives g.met.K.Ord.total c.loop-above.invariant c.in-Leaf.node c.child_by_key.result (rw c.in-Some-unbounded_child-2.is c.child_by_key.ensures) (rw c.in-Leaf.is at c.node-2.ensures) in
    record { way = it.way; child = (whole g.met.K.Ord.total c.args.arenas.now c.args.key.now c.args.level c.args.id c.requires.node c.requires.part it.stands, it.which) }
