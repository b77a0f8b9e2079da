use Rattle.std.proofs.Common.{refl}
use Rattle.tree_node.proofs.Common.{fits}
use Rattle.tree_root.proofs.Cutting.{none_cut, still, was_cut}
use Rattle.tree_root.proofs.Storing.{part_or_retired}
use Rattle.tree_root.proofs.tree.Tree.remove_range.Goals as goal

pub remove_range_at-removed-requires : goal.remove_range_at-removed-requires
remove_range_at-removed-requires g c =
    let tree = rw c.in-Some.is at c.requires in
    (search fits, (search fits, (tree.top.0, part_or_retired g.K.Ord.cmp c.args.self.now.arenas c.in-Some.root.id c.in-Some.root.level tree)))

pub lower_root_at-self-requires : goal.lower_root_at-self-requires
lower_root_at-self-requires g c =
    let tree = rw c.in-Some.is at c.requires in
    let root = still g.K.Ord.cmp _ _ c.args.self.now c.args.self.now c.in-Some.root.id c.in-Some.root.level c.in-Some.is c.requires _ _ c.remove_range_at-removed.ensures.cuts c.remove_range_at-removed.ensures.retired in
    (search fits, (search fits, (tree.top.0, (root.0, root.1))))

pub returns-in_default : goal.returns-in_default
returns-in_default g c = none_cut g.K.Ord.cmp _ _ c.args.self.now _ c.requires refl c.in_default.is

pub returns : goal.returns
returns g c = was_cut g.K.Ord.cmp _ _ c.args.self.now _ c.in-Some.root.id c.in-Some.root.level c.in-Some.is c.requires _ _ c.remove_range_at-removed.ensures.cuts c.lower_root_at-self.ensures
