use Rattle.tree_node.proofs.Common.{fits}
use Rattle.tree_batches.proofs.batched.value_in.Goals as goal

pub entry_in-requires : goal.entry_in-requires
entry_in-requires g c = (search fits, (search fits, (c.requires.tree, c.requires.leaf)))
