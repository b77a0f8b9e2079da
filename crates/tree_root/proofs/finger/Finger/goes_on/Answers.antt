use Rattle.tree_node.proofs.Common.{fits}
use Rattle.tree_root.proofs.finger.Finger.goes_on.Goals as goal

pub find_leaf-requires : goal.find_leaf-requires
find_leaf-requires g c = search fits

pub next-requires : goal.next-requires
next-requires g c = search fits
