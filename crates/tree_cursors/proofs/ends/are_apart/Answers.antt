use Rattle.tree_cursors.proofs.RangesCommon.{fits}
use Rattle.tree_cursors.proofs.Shown.{apart_by_keys}
use Rattle.tree_cursors.proofs.ends.are_apart.Goals as goal

pub returns-in-At-At : goal.returns-in-At-At
returns-in-At-At g c = λ arenas root kept. rw (c.in-At-At.is-0, c.in-At-At.is-1) (apart_by_keys g.met.K.Ord.total arenas root c.in-At-At.walk c.in-At-At.other _ c.comes_before.ensures (rw (c.in-At-At.is-0, c.in-At-At.is-1) at kept))

pub comes_before-requires : goal.comes_before-requires
comes_before-requires g c = search fits
