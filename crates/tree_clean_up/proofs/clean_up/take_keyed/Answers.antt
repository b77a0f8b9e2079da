use Rattle.tree_clean_up.proofs.Common.{Updates-with_value, refl, rules}
use Rattle.tree_clean_up.proofs.Drops.{has_node}
use Rattle.tree_clean_up.proofs.clean_up.take_keyed.Goals as goal

pub node_mut-requires : goal.node_mut-requires
node_mut-requires g c = search (rules, has_node _ _ c.requires)

pub take_keyed-requires : goal.take_keyed-requires
take_keyed-requires g c = (search rules, rw c.node_mut.ensures.value at c.requires)

pub returns-clause-nodes : goal.returns-clause-nodes
returns-clause-nodes g c =
    let node = c.take_keyed.ensures in record {
      node = c.node_mut.result.now;
      left = _;
      was = c.node_mut.ensures.value;
      updates = Updates-with_value c.args.arenas.now.nodes c.args.id _ (rw c.node_mut.ensures.value refl);
      kind = node.kind;
      pair = node.taken.0;
      there = node.taken.1;
      others = node.taken.2;
      same_unbounded = node.last;
    }
