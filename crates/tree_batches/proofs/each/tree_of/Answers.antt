use Rattle.std.proofs.Common.{refl}
use Rattle.tree_batches.proofs.each.tree_of.Goals as goal

pub returns-clause-tree : goal.returns-clause-tree
returns-clause-tree g c = rw (c.root_of-root.ensures, c.depth.ensures.depth) c.parts-id.ensures.tree

pub returns-clause-pairs : goal.returns-clause-pairs
returns-clause-pairs g c = rw (c.root_of-root.ensures, c.depth.ensures.depth, c.parts-id.ensures.pairs) refl
