use Rattle.std.proofs.Common.{None, refl}
use Rattle.tree_leaf.proofs.Ways.{lands, none_passed, sees}
use Rattle.tree_leaf.proofs.stand.Stand+LeafOf+K+V+LEN.landing.Goals as goal

pub returns-then-next-gt0 : goal.returns-then-next-gt0
returns-then-next-gt0 g c = λ front back chain.
    let leaves = c.args.self.now.leaves.now in
    lands leaves c.args.way _ None c.in-Some.next
    (sees leaves c.args.way _ None _ _ refl (rw c.in-Some.is at c.requires.ahead) (none_passed leaves c.args.way front _ back chain _ c.requires.leaf)) c.if-next-gt0.true
