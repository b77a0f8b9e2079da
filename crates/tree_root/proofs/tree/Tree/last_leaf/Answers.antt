use Rattle.tree_node.proofs.Sizes.{fits}
use Rattle.tree_root.proofs.Storing.{stands_or_retired}
use Rattle.tree_root.proofs.tree.Tree.last_leaf.Goals as goal

pub last_leaf_at-requires : goal.last_leaf_at-requires
last_leaf_at-requires g c =
    let tree = rw c.in_ok-root.was at c.requires in
    (search fits, (search fits, (tree.top.0, stands_or_retired g.K.Ord.cmp c.args.self.now.arenas c.in_ok-root.root.id c.in_ok-root.root.level tree)))

pub returns : goal.returns
returns g c = rw c.in_ok-root.was c.last_leaf_at.ensures.last
