use Rattle.tree_cursors.proofs.RangesCommon.{[], fits, refl, first_place}
use Rattle.port_calls.proofs.Within.{first_taken}
use Rattle.port_calls.proofs.approximate.first_at.Goals as goal

pub returns-in_err-begun : goal.returns-in_err-begun
returns-in_err-begun g c = rw (c.from_residual.ensures, c.in_err-begun.ensures, first_place g.D.Direction.way []) refl

pub returns : goal.returns
returns g c = first_taken g.D.Direction.way c.args.level c.args.arenas.now c.args.id _ _ c.next.result c.in_ok-begun.ensures c.next.ensures.steps

pub walk_from_end-requires : goal.walk_from_end-requires
walk_from_end-requires g c = search fits

pub next-requires : goal.next-requires
next-requires g c = search fits
