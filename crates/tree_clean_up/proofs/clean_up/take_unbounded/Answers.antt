use Rattle.tree_clean_up.proofs.Common.{Updates-with_value, refl}
use Rattle.tree_clean_up.proofs.clean_up.take_unbounded.Goals as goal

pub returns-clause-nodes : goal.returns-clause-nodes
returns-clause-nodes g c = record {
  node = c.node_mut.result.now;
  left = _;
  was = c.node_mut.ensures.value;
  updates = Updates-with_value c.args.arenas.now.nodes c.args.id _ (rw c.node_mut.ensures.value refl);
  kind = c.take_unbounded.ensures.kind;
  moves = c.take_unbounded.ensures.moves;
}
