-- What fits in memory has parts that fit.
use Rattle.tree_node.proofs.Words.{before_last, before_two, in_some, last_field}

-- the steps from arenas to a leaf and to its array
pub ruleset fits = (before_two, before_last, last_field, in_some)
