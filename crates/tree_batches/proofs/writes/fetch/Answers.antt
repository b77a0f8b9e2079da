use Rattle.std.proofs.Common.{length-take-le, refl, sym, arith}
use Rattle.std.proofs.lemmas.List.{length-take}
use Rattle.tree_node.proofs.Common.{fits}
use Rattle.tree_batches.proofs.writes.fetch.Goals as goal

pub tree_of-root-requires : goal.tree_of-root-requires
tree_of-root-requires g c = search fits

pub slice_bounds-find_present-end : goal.slice_bounds-find_present-end
slice_bounds-find_present-end g c = sym (length-take-le c.min.result c.args.pairs.now (omega (arith, c.min.ensures)))

pub find_present-requires : goal.find_present-requires
find_present-requires g c = (search fits, (search fits, (c.tree_of-root.ensures.tree, (omega (arith, c.min.ensures, length-take c.min.result c.args.pairs.now), refl))))
