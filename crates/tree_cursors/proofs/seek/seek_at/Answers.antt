use Rattle.tree_cursors.proofs.Common.{ap, sym, count_falls}
use Rattle.tree_cursors.proofs.Seeks.{nearest, none_in_empty, none_in_part, none_left, old_chain, opened_sought, passed_sought, still_sought}
use Rattle.tree_cursors.proofs.seek.seek_at.Goals as goal

pub returns-in_err-walk : goal.returns-in_err-walk
returns-in_err-walk g c = rw c.from_residual.ensures (λ front back chain. none_in_empty g.K.Ord.cmp c.args.level c.args.arenas.now c.args.id _ g.D.Direction.way c.in_err-walk.ensures)

pub loop-key-init : goal.loop-key-init
loop-key-init g c = λ front back chain.
    let opened = opened_sought g.K.Ord.cmp c.args.level c.args.arenas.now c.args.id _ g.D.Direction.way _ c.in_ok-walk.ensures front back in
    passed_sought _ _ _ _ _ _ _ _ opened (ap (λ (walk : _). walk.at) c.in_ok-walk.ensures.unopened) c.pass.ensures.stays c.pass.ensures.passes

pub returns-then-meets : goal.returns-then-meets
returns-then-meets g c = λ front back chain.
    nearest _ _ _ _ _ _ chain _ (c.loop-key.invariant front back chain) _ (c.in-Some.key, c.in-Some.field-0-1) c.in-Some.ensures (sym c.if-meets.ensures)

pub loop-key-smaller : goal.loop-key-smaller
loop-key-smaller g c =
    let linked = c.requires.linked in
    let sought = c.loop-key.invariant linked.0 linked.1 linked.2 in
    count_falls g.D.Direction.way _ _ (c.in-Some.key, c.in-Some.field-0-1) sought.stand.front sought.stand.back (old_chain _ _ _ _ _ _ linked.2 _ sought) c.in-Some.ensures

pub loop-key-preserved : goal.loop-key-preserved
loop-key-preserved g c = λ front back chain.
    still_sought _ _ _ _ _ _ chain _ (c.loop-key.invariant front back chain) _ (c.in-Some.key, c.in-Some.field-0-1) c.in-Some.ensures (sym c.if-meets.ensures)

pub returns : goal.returns
returns g c = λ front back chain.
    none_in_part g.K.Ord.cmp c.args.level c.args.arenas.now c.args.id _ g.D.Direction.way front back (none_left _ _ _ _ _ _ chain _ (c.loop-key.invariant front back chain) _ c.in_default.ensures)
