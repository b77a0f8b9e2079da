use Rattle.tree_clean_up.proofs.Common.{no_children, refl, rules, ℕ}
use Rattle.tree_clean_up.proofs.Drops.{has_node, node_dropped}
use Rattle.tree_clean_up.proofs.clean_up.drop_child_node.Goals as goal

pub remove_node-requires : goal.remove_node-requires
remove_node-requires g c = search (rules, (no_children _ c.requires.retired).0)

pub take_keyed-requires : goal.take_keyed-requires
take_keyed-requires g c = (search rules, (search rules, rw (c.remove_node.ensures.nodes.updates.others c.args.id c.requires.apart) (rw c.in-Some.is at c.requires.slot)))

pub take_unbounded-requires : goal.take_unbounded-requires
take_unbounded-requires g c = (search rules, (search rules, rw (c.remove_node.ensures.nodes.updates.others c.args.id c.requires.apart) (has_node _ _ c.requires.slot)))

pub returns-in-Some : goal.returns-in-Some
returns-in-Some g c = λ (level : ℕ). rw c.in-Some.is (
  record {
    between = c.remove_node.new.self;
    dropped = node_dropped level _ _ c.args.child _ c.requires.retired c.remove_node.ensures.nodes c.remove_node.ensures.leaves;
    takes = c.take_keyed.ensures.nodes;
    leaves = c.take_keyed.ensures.leaves;
  },
  refl,
)

pub returns-in-None : goal.returns-in-None
returns-in-None g c = λ (level : ℕ). rw c.in-None.is (record {
  between = c.remove_node.new.self;
  dropped = node_dropped level _ _ c.args.child _ c.requires.retired c.remove_node.ensures.nodes c.remove_node.ensures.leaves;
  takes = c.take_unbounded.ensures.nodes;
  leaves = c.take_unbounded.ensures.leaves;
})
