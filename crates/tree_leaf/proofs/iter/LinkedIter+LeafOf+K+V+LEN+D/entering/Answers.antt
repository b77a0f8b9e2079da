use Rattle.tree_leaf.proofs.ChainCommon.{rules, ◌∙◌, sym, chain_used}
use Rattle.tree_leaf.proofs.Ways.{beyond_beside, next_there, none_passed, seen_if_some}
use Rattle.tree_leaf.proofs.iter.LinkedIter+LeafOf+K+V+LEN+D.entering.Goals as goal

pub at-requires : goal.at-requires
at-requires g c = (search rules, chain_used _ _ _ _ c.requires.chain.2)

pub look_up-requires : goal.look_up-requires
look_up-requires g c =
    let now = none_passed _ g.D.Direction.way _ _ _ c.requires.chain.2 _ c.at.ensures.leaf in
    (search rules, λ id is. next_there _ _ _ _ _ (rw (sym (beyond_beside c.args.leaves.now _ _ _ c.requires.seen c.at.ensures.leaf) ∙ is) at now))

pub invariant_of-result : goal.invariant_of-result
invariant_of-result g c =
    let beside = beyond_beside c.args.leaves.now g.D.Direction.way _ _ c.requires.seen c.at.ensures.leaf in
    rw c.seeing-stand.ensures (search rules, seen_if_some _ _ (rw (c.at.ensures.leaves, ← beside, ← c.way.ensures) c.look_up.ensures))
