use Rattle.tree_node.proofs.Common.{fits}
use Rattle.tree_root.proofs.Storing.{part_or_retired}
use Rattle.tree_root.proofs.finger.Finger.leaf_for.Goals as goal

pub leaf_for-requires : goal.leaf_for-requires
leaf_for-requires g c =
    (search fits, (search fits, (c.requires.top.0, part_or_retired g.K.Ord.cmp c.args.arenas.now c.args.root c.args.depth c.requires)))

pub holds-requires : goal.holds-requires
holds-requires g c = search fits

pub eq-self-requires : goal.eq-self-requires
eq-self-requires g c = search fits
