use Rattle.std.proofs.Common.{None, Some, refl}
use Rattle.tree_index.proofs.Indexed.{is_tree_of}
use Rattle.tree_index.proofs.index.TreeIndexOf.parts.Goals as goal

pub returns-in-Some : goal.returns-in-Some
returns-in-Some g c = rw (← c.self.view_is) (is_tree_of g.K.Ord.cmp c.self.inside.tree (Some c.in-Some.root.id) (rw c.in-Some.is refl) c.self.invariant.1)

pub returns-in-None : goal.returns-in-None
returns-in-None g c = rw (← c.self.view_is) (is_tree_of g.K.Ord.cmp c.self.inside.tree None (rw c.in-None.is refl) c.self.invariant.1)
