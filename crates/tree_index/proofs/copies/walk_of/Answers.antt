use Rattle.tree_node.proofs.Common.{fits}
use Rattle.tree_root.proofs.Storing.{stands_or_retired}
use Rattle.tree_index.proofs.Copied.{begins_tree, chain_linked}
use Rattle.tree_index.proofs.copies.walk_of.Goals as goal

pub walk_from_end-requires : goal.walk_from_end-requires
walk_from_end-requires g c =
    let tree = rw c.in_ok-root.was at c.requires in
    (search fits, (search fits, (search fits, (tree.top.0, (stands_or_retired g.K.Ord.cmp c.args.tree.now.arenas c.in_ok-root.root.id c.in_ok-root.root.level tree, chain_linked g.K.Ord.cmp c.args.tree.now.arenas c.in_ok-root.root.id c.in_ok-root.root.level tree)))))

pub returns : goal.returns
returns g c =
    let tree = rw c.in_ok-root.was at c.requires in
    rw c.in_ok-root.was (begins_tree g.K.Ord.cmp c.args.tree.now.arenas c.in_ok-root.root.id c.in_ok-root.root.level tree c.walk_from_end.result c.walk_from_end.ensures)
