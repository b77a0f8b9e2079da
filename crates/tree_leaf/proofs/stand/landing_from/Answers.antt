use Rattle.std.proofs.Common.{rules, None, ◌∙◌, refl, sym}
use Rattle.tree_leaf.proofs.ChainCommon.{chain_used}
use Rattle.tree_leaf.proofs.Ways.{beyond_there, hops_fall, lands, lands_last, next_there, none_passed, number_seen, passes, sees}
use Rattle.tree_leaf.proofs.stand.landing_from.Goals as goal

pub leaf_at-requires : goal.leaf_at-requires
leaf_at-requires g c = (search rules, chain_used _ _ _ _ c.requires.2)

pub look_up-ahead-requires : goal.look_up-ahead-requires
look_up-ahead-requires g c =
    let now = none_passed _ c.args.way _ _ _ c.requires.2 _ c.leaf_at.ensures in
    (search rules, λ id is. next_there _ _ _ _ _ (rw (sym c.link.ensures ∙ is) at now))

pub loop-ahead-init : goal.loop-ahead-init
loop-ahead-init g c = λ front back chain.
    sees _ _ _ None _ _ refl c.look_up-ahead.ensures (rw (sym c.link.ensures) at (none_passed _ c.args.way front _ back chain _ c.leaf_at.ensures))

pub returns-then-next-gt0 : goal.returns-then-next-gt0
returns-then-next-gt0 g c = λ front back chain. lands _ _ _ _ _ (rw c.in-Some.is at (c.loop-ahead.invariant front back chain)) c.if-next-gt0.true

pub look_up-ahead-requires-in-Some : goal.look_up-ahead-requires-in-Some
look_up-ahead-requires-in-Some g c =
    (search rules, beyond_there _ _ _ _ _ (rw c.in-Some.is at (c.loop-ahead.invariant _ _ c.requires.2)) c.if-next-gt0.false)

pub loop-ahead-smaller : goal.loop-ahead-smaller
loop-ahead-smaller g c =
    rw (c.in-Some.is, c.look_up-ahead-in-Some.ensures, number_seen c.args.leaves.now c.args.way _)
    (hops_fall _ _ _ _ _ (rw c.in-Some.is at (c.loop-ahead.invariant _ _ c.requires.2)))

pub loop-ahead-preserved : goal.loop-ahead-preserved
loop-ahead-preserved g c = λ front back chain.
    let now = rw c.in-Some.is at (c.loop-ahead.invariant front back chain) in
    sees _ _ _ _ _ _ now.looked c.look_up-ahead-in-Some.ensures (passes _ _ _ _ _ now c.if-next-gt0.false)

pub returns : goal.returns
returns g c = λ front back chain. lands_last _ _ _ _ _ (c.loop-ahead.invariant front back chain) c.in_default.is
