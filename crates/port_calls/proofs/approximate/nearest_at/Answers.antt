use Rattle.std.proofs.Common.{◌∙◌, sym}
use Rattle.port_calls.proofs.Within.{found_within, none_in_empty, none_within}
use Rattle.tree_cursors.proofs.Shown.{part_ascends}
use Rattle.port_calls.proofs.approximate.nearest_at.Goals as goal

pub returns-in_err-last : goal.returns-in_err-last
returns-in_err-last g c = rw c.from_residual.ensures (none_in_empty g.K.Ord.cmp g.D.Direction.way _ _ g.E.Direction.way (sym c.in_err-last.ensures))

pub returns-then-not-meets : goal.returns-then-not-meets
returns-then-not-meets g c =
    let ascending = part_ascends g.met.K.Ord.total c.args.arenas.now c.args.id c.args.level c.requires.node c.requires.stands in
    none_within g.met.K.Ord.total g.D.Direction.way _ _ ascending _ (rw c.requires.ways at (sym c.in_ok-last.ensures)) (sym c.meets.ensures ∙ c.if-not-meets.true)

pub returns : goal.returns
returns g c =
    let last = rw c.requires.ways at (sym c.in_ok-last.ensures) in
    found_within g.K.Ord.cmp g.D.Direction.way c.args.level c.args.arenas.now c.args.id _ c.requires.linked _ last
    (sym c.meets.ensures ∙ c.if-not-meets.false) c.seek_at.result c.seek_at.ensures
