use Rattle.std.proofs.Common.{rules, ◌≡◌, None, ◌∙◌, refl, sym, arith}
use Rattle.tree_node.proofs.DescentWords.{ContainsKey, child_of, Internal, searched}
use Rattle.tree_node.proofs.Asked.{asked_last, asked_on}
use Rattle.tree_node.proofs.Found.{leaf_found}
use Rattle.tree_node.proofs.Ways.{goes_down, is_there, starts, stops}
use Rattle.tree_node.proofs.look_ups.leaf_by.Goals as goal

pub loop-node-init : goal.loop-node-init
loop-node-init g c = record {
  same_key = refl;
  down = starts g.K.Ord.cmp c.args.arenas.now (g.A.Asks.key c.args.asked.now) c.args.level c.args.id c.requires.node c.requires.stands;
  counted = omega arith;
  halved = omega arith;
}

pub node-requires : goal.node-requires
node-requires g c = let there : ContainsKey c.args.arenas.now.nodes c.loop-node.at = is_there g.met.K.Ord.total c.loop-node.invariant.down in search rules

pub returns-in-Leaf : goal.returns-in-Leaf
returns-in-Leaf g c = record {
  found = leaf_found g.met.K.Ord.total c.args.arenas.now (g.A.Asks.key c.args.asked.now) c.args.level _ _ _ c.requires.node c.loop-node.invariant.down c.in-Leaf.node (rw c.in-Leaf.is at c.node.ensures) c.child_for.result (rw c.loop-node.invariant.same_key at c.child_for.ensures.child);
  same_key = c.child_for.ensures.same_key ∙ c.loop-node.invariant.same_key;
  counted = asked_last g.row.LEN c.loop-node.above _ _ _ c.loop-node.invariant.down.inner c.loop-node.invariant.counted c.child_for.ensures.counted;
  halved = asked_last (searched g.row.LEN) c.loop-node.above _ _ _ c.loop-node.invariant.down.inner c.loop-node.invariant.halved c.child_for.ensures.halved;
}

pub returns-in_err-at-in-Internal : goal.returns-in_err-at-in-Internal
returns-in_err-at-in-Internal g c =
    let none : child_of g.K.Ord.cmp (g.A.Asks.key c.args.asked.now) c.in-Internal.node.children.entries c.in-Internal.node.unbounded_child ≡ None = sym (rw (c.loop-node.invariant.same_key, c.in_err-at-in-Internal.was) at c.child_for-in-Internal.ensures.child) in
    record {
      found = rw c.from_residual.ensures (stops g.met.K.Ord.total c.loop-node.invariant.down (Internal c.in-Internal.node) (rw c.in-Internal.is at c.node.ensures) none);
      same_key = c.child_for-in-Internal.ensures.same_key ∙ c.loop-node.invariant.same_key;
      counted = asked_last g.row.LEN c.loop-node.above _ _ _ c.loop-node.invariant.down.inner c.loop-node.invariant.counted c.child_for-in-Internal.ensures.counted;
      halved = asked_last (searched g.row.LEN) c.loop-node.above _ _ _ c.loop-node.invariant.down.inner c.loop-node.invariant.halved c.child_for-in-Internal.ensures.halved;
    }

pub loop-node-smaller : goal.loop-node-smaller
loop-node-smaller g c = omega (arith, c.loop-node.invariant.down.inner)

pub loop-node-preserved : goal.loop-node-preserved
loop-node-preserved g c =
    let inner = c.loop-node.invariant.down.inner in
    let chosen : child_of g.K.Ord.cmp (g.A.Asks.key c.args.asked.now) c.in-Internal.node.children.entries c.in-Internal.node.unbounded_child ≡ _ = sym (rw (c.loop-node.invariant.same_key, c.in_ok-at-in-Internal.was) at c.child_for-in-Internal.ensures.child) in
    record {
      same_key = c.child_for-in-Internal.ensures.same_key ∙ c.loop-node.invariant.same_key;
      down = goes_down g.met.K.Ord.total c.loop-node.invariant.down c.in-Internal.node _ chosen (rw c.in-Internal.is at c.node.ensures) _ (omega (arith, inner));
      counted = asked_on g.row.LEN c.loop-node.above _ _ _ inner c.loop-node.invariant.counted c.child_for-in-Internal.ensures.counted;
      halved = asked_on (searched g.row.LEN) c.loop-node.above _ _ _ inner c.loop-node.invariant.halved c.child_for-in-Internal.ensures.halved;
    }
