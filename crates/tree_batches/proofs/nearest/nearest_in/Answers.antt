use Rattle.std.proofs.Common.{◌≡◌, rules, subst}
use Rattle.tree_batches.proofs.Answered.{none_under}
use Rattle.tree_batches.proofs.Neighbours.{finds_under, in_chain, none_nearest}
use Rattle.tree_leaf.specs.Rest.{Takes}
use Rattle.tree_leaf.specs.Walks.{standing}
use Rattle.tree_node.proofs.Common.{fits}
use Rattle.tree_batches.proofs.nearest.nearest_in.Goals as goal

pub returns-in_err-begin : goal.returns-in_err-begin
returns-in_err-begin g c =
    rw c.from_residual.ensures (none_nearest g.D.Direction.way g.K.Ord.cmp _ c.args.key.now (none_under g.K.Ord.cmp c.args.arenas.now c.args.key.now c.args.root.now c.requires.tree.top (rw c.in_err-begin.was at c.requires.leaf)))

pub new-walk-requires : goal.new-walk-requires
new-walk-requires g c = (search rules, (search fits, in_chain g.met.K.Ord.total c.args.arenas.now c.args.key.now c.in_ok-begin.begin c.args.root.now c.requires.tree (rw c.in_ok-begin.was at c.requires.leaf)))

pub returns : goal.returns
returns g c =
    let stays : c.pass.new.self ≡ standing c.args.arenas.now.leaves c.in_ok-begin.begin c.pass.new.self.at = rw c.new-walk.ensures at c.pass.ensures.stays in
    finds_under g.met.K.Ord.total c.args.arenas.now c.args.key.now c.in_ok-begin.begin g.D.Direction.way c.args.root.now c.requires.tree (rw c.in_ok-begin.was at c.requires.leaf) c.pass.new.self.at
    (rw c.new-walk.ensures at c.pass.ensures.passed) c.next_or_jump.new.walk c.next_or_jump.result
    (subst (λ walk. Takes g.D.Direction.way walk c.next_or_jump.result c.next_or_jump.new.walk) stays c.next_or_jump.ensures)
