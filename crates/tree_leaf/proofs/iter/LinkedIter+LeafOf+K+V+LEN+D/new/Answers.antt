use Rattle.tree_leaf.proofs.ChainCommon.{rules, chain_used}
use Rattle.tree_leaf.proofs.iter.LinkedIter+LeafOf+K+V+LEN+D.new.Goals as goal

pub at-stand-requires : goal.at-stand-requires
at-stand-requires g c = (search rules, rw c.leaves.ensures (chain_used _ _ _ _ c.requires.2))
