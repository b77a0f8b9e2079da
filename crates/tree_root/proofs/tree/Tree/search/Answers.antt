use Rattle.tree_node.proofs.Common.{fits}
use Rattle.tree_root.proofs.Storing.{stands_or_retired}
use Rattle.tree_root.proofs.tree.Tree.search.Goals as goal

pub search_at-requires : goal.search_at-requires
search_at-requires g c =
    let tree = rw c.in_ok-root.was at c.requires in
    (search fits, (search fits, (tree.top.0, stands_or_retired g.K.Ord.cmp c.args.self.now.arenas c.in_ok-root.root.id c.in_ok-root.root.level tree)))

pub returns-clause-found : goal.returns-clause-found
returns-clause-found g c = rw c.in_ok-root.was c.search_at.ensures.found
