use Rattle.std.proofs.Common.{rules}
use Rattle.tree_node.proofs.Common.{inner_kind, outer_kind}
use Rattle.tree_node.proofs.node.NodeOf.cut.Goals as goal

pub cut-separator-requires : goal.cut-separator-requires
cut-separator-requires g c = (search rules, (c.requires.len, rw c.in-Internal.is at c.requires.within))

pub cut-separator-requires-in-Leaf : goal.cut-separator-requires-in-Leaf
cut-separator-requires-in-Leaf g c = (search rules, (c.requires.len, rw c.in-Leaf.is at c.requires.within))

pub returns-in-Internal : goal.returns-in-Internal
returns-in-Internal g c = let cut = c.cut-separator.ensures in rw c.in-Internal.is (search (rules, inner_kind))

pub returns-in-Leaf : goal.returns-in-Leaf
returns-in-Leaf g c = let cut = c.cut-separator-in-Leaf.ensures in rw c.in-Leaf.is (search (rules, outer_kind))
