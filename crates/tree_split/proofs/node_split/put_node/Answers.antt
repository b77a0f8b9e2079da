use Rattle.std.proofs.Common.{refl}
use Rattle.tree_node.proofs.Common.{inner_kind}
use Rattle.tree_split.proofs.node_split.put_node.Goals as goal

pub returns : goal.returns
returns g c = rw c.in-Internal.is (record { put = c.put_keyed.ensures.put; few = c.put_keyed.ensures.few; last = refl; kind = inner_kind _ _ })
