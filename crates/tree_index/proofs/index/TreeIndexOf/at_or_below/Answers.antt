use Rattle.std.proofs.Common.{◌∙◌}
use Rattle.tree_node.proofs.Common.{fits}
use Rattle.tree_index.proofs.Beside.{between_below, empty_below, exact_below, larger_below, smaller_below}
use Rattle.tree_index.proofs.index.TreeIndexOf.at_or_below.Goals as goal

pub returns-in-Exact : goal.returns-in-Exact
returns-in-Exact g c = c.get.ensures.pair ∙ exact_below g.met.K.Ord.total _ _ c.in-Exact.at c.get.ensures.ascending c.in-Exact.ensures

pub returns-in-Between : goal.returns-in-Between
returns-in-Between g c = c.get-in-Between.ensures.pair ∙ between_below g.met.K.Ord.total _ _ c.in-Between.at c.get-in-Between.ensures.ascending c.in-Between.ensures

pub returns-in-Smaller : goal.returns-in-Smaller
returns-in-Smaller g c = c.get_back.ensures.pair ∙ smaller_below g.met.K.Ord.total _ _ c.in-Smaller.at c.get_back.ensures.ascending c.in-Smaller.ensures

pub returns-in-Larger : goal.returns-in-Larger
returns-in-Larger g c = larger_below g.met.K.Ord.total _ _ _ c.in-Larger.ensures

pub returns-in-Empty : goal.returns-in-Empty
returns-in-Empty g c = empty_below g.met.K.Ord.total _ _ c.in-Empty.ensures

pub locate-requires : goal.locate-requires
locate-requires g c = search fits

pub get-requires : goal.get-requires
get-requires g c = search fits

pub get-requires-in-Between : goal.get-requires-in-Between
get-requires-in-Between g c = search fits

pub get_back-requires : goal.get_back-requires
get_back-requires g c = search fits
