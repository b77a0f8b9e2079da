use Rattle.tree_node.proofs.Common.{fits}
use Rattle.tree_batches.proofs.Answered.{absent_under, found_under}
use Rattle.tree_batches.proofs.batched.entry_in.Goals as goal

pub returns-in_err-found : goal.returns-in_err-found
returns-in_err-found g c = rw c.from_residual.ensures (absent_under g.met.K.Ord.total c.args.arenas.now (g.Q.Lent.key c.args.key.now) c.args.root.now c.requires.tree.top (rw c.in_err-found.was at c.requires.leaf))

pub leaf-requires : goal.leaf-requires
leaf-requires g c =
    let found = found_under g.met.K.Ord.total c.args.arenas.now (g.Q.Lent.key c.args.key.now) c.args.root.now c.in_ok-found.found c.requires.tree.top (rw c.in_ok-found.was at c.requires.leaf) in
    (search fits, (search fits, found.0))

pub returns : goal.returns
returns g c =
    let found = found_under g.met.K.Ord.total c.args.arenas.now (g.Q.Lent.key c.args.key.now) c.args.root.now c.in_ok-found.found c.requires.tree.top (rw c.in_ok-found.was at c.requires.leaf) in
    rw (found.1, c.leaf.ensures, ← c.array.ensures) c.found_in.ensures
