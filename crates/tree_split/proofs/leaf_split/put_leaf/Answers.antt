use Rattle.std.proofs.Common.{refl}
use Rattle.tree_node.proofs.Common.{outer_kind}
use Rattle.tree_split.proofs.leaf_split.put_leaf.Goals as goal

pub returns : goal.returns
returns g c = rw c.in-Leaf.is (record { put = c.put_keyed.ensures.put; few = c.put_keyed.ensures.few; last = refl; kind = outer_kind _ _ })
