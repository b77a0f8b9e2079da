use Rattle.std.proofs.Common.{rules, ◌∙◌, ap, sym}
use Rattle.tree_leaf.proofs.Jumps.{jumps, lands_in, onward, stays}
use Rattle.tree_leaf.proofs.Ways.{number_of, number_seen, seen_whole}
use Rattle.tree_leaf.proofs.iter.LinkedIter+LeafOf+K+V+LEN+D.jump.Goals as goal

pub returns-in_err-next : goal.returns-in_err-next
returns-in_err-next g c =
    let leaves = c.self.inside.stand.leaves.now in
    rw (← c.self.view_is, c.from_residual.ensures) (λ front back chain. stays leaves g.D.Direction.way _ _ front back
    (sym (number_seen leaves g.D.Direction.way _) ∙ ap number_of (rw c.way.ensures at (sym (c.landing.ensures front back chain) ∙ c.in_err-next.was))))

pub entering-requires : goal.entering-requires
entering-requires g c =
    let leaves = c.self.inside.stand.leaves.now in
    let inv = c.self.invariant.0 in
    let seen = seen_whole leaves g.D.Direction.way c.in_ok-next.next _ (rw c.way.ensures at (sym c.in_ok-next.was ∙ c.landing.ensures _ _ inv.chain)) in
    let l = lands_in leaves _ _ seen.0 in
    let to = onward _ inv.front c.self.inside.stand.id inv.back l.front c.in_ok-next.next.id l.back l.parts in
    (search rules, ((to.front, to.back, rw to.stands inv.chain), seen.1))

pub returns : goal.returns
returns g c =
    let leaves = c.self.inside.stand.leaves.now in
    rw (← c.self.view_is) (λ front back chain. jumps leaves g.D.Direction.way _ _ _ _ front back _ _
    (seen_whole leaves g.D.Direction.way c.in_ok-next.next _ (rw c.way.ensures at (sym c.in_ok-next.was ∙ c.landing.ensures front back chain))).0
    (c.self-2.view_is ∙ c.entering.ensures) c.next.ensures.steps)
