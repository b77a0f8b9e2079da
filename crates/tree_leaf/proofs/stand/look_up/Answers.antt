use Rattle.std.proofs.Common.{refl}
use Rattle.tree_leaf.proofs.stand.look_up.Goals as goal

pub returns : goal.returns
returns g c =
    rw (c.in_ok-id.was, c.leaf_at-leaf.ensures, c.len.ensures, c.array.ensures, c.link.ensures) refl
