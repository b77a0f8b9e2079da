use Rattle.std.proofs.Common.{refl}
use Rattle.tree_node.proofs.Common.{fits}
use Rattle.tree_root.proofs.Storing.{stands_or_retired}
use Rattle.tree_index.proofs.index.TreeIndexOf.spare.Goals as goal

pub spare_at-requires : goal.spare_at-requires
spare_at-requires g c =
    let tree = rw c.in-Some.is at c.self.invariant.1 in
    (search fits, (search fits, (tree.top.0, stands_or_retired g.K.Ord.cmp c.self.inside.tree.arenas c.in-Some.root.id c.in-Some.root.level tree)))

pub returns-in-Some : goal.returns-in-Some
returns-in-Some g c = rw (← c.self.view_is, c.in-Some.is) c.spare_at.ensures

pub returns-in-None : goal.returns-in-None
returns-in-None g c = rw (← c.self.view_is, c.in-None.is) refl
