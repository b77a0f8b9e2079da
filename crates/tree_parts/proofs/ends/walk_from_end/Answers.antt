use Rattle.tree_parts.proofs.Common.{rules, List, ℕ, ◌++◌, ◌∷◌, IsChain, fits}
use Rattle.tree_parts.proofs.EndWalks.{leaf_in_chain, begins_there}
use Rattle.tree_parts.proofs.ends.walk_from_end.Goals as goal

pub new-requires : goal.new-requires
new-requires g c =
    let chain : (front back : List ℕ) × IsChain c.args.arenas.now.leaves (front ++ c.in_ok-leaf.leaf ∷ back) =
    let first = c.in_ok-leaf.ensures in
    leaf_in_chain c.args.level c.args.arenas.now c.args.id c.in_ok-leaf.leaf first.front first.back first.parts c.requires.linked in
    (search rules, (search fits, chain))

pub returns : goal.returns
returns g c = begins_there g.D.Direction.way c.args.level c.args.arenas.now c.args.id c.in_ok-leaf.leaf c.in_ok-leaf.ensures _ c.new.ensures
