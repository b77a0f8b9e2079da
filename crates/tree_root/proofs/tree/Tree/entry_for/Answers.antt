use Rattle.std.proofs.Common.{refl}
use Rattle.tree_node.proofs.Common.{fits}
use Rattle.tree_root.proofs.Storing.{part_or_retired}
use Rattle.tree_root.proofs.tree.Tree.entry_for.Goals as goal

pub entry_for-requires : goal.entry_for-requires
entry_for-requires g c =
    let tree = rw c.in_ok-root.was at c.requires in
    (search fits, (search fits, (tree.top.0, part_or_retired g.K.Ord.cmp c.args.self.now.arenas c.in_ok-root.root.id c.in_ok-root.root.level tree)))

pub returns : goal.returns
returns g c = rw c.in_ok-root.was c.entry_for.ensures

pub returns-in_err-root : goal.returns-in_err-root
returns-in_err-root g c = rw (c.from_residual.ensures, c.in_err-root.was) refl
