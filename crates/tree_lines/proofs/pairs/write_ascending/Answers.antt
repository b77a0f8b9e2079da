use Rattle.std.proofs.Common.{refl}
use Rattle.tree_model.proofs.Common.{err_from_is_err_and}
use Rattle.tree_model.specs.declared.way.Way.TheVariants.{On}
use Rattle.tree_node.proofs.Common.{fits}
use Rattle.tree_lines.proofs.Pieces.{line_ends, line_fails, line_goes_on, line_of_all}
use Rattle.tree_lines.proofs.pairs.write_ascending.Goals as goal

pub loop-key-init : goal.loop-key-init
loop-key-init g c =
    rw (c.into_iter-key-iterator.ensures.into_iter_gives, c.range-key-items.ensures, c.as_ref.ensures, c.as_ref-2.ensures)
    (line_of_all On _ _ (record { forward = refl; backward = refl }))

-- the write of a pair failed
pub returns-in_err-write_pair : goal.returns-in_err-write_pair
returns-in_err-write_pair g c =
    let failed = err_from_is_err_and c.from_residual.result c.from_residual.ensures.1 in
    rw failed.1 (line_fails On _ _ _ _ _ _ _ c.loop-key.invariant _ c.in-Some.ensures.steps c.in_err-write_pair.ensures)

-- the pair was written
pub loop-key-preserved : goal.loop-key-preserved
loop-key-preserved g c = line_goes_on On _ _ _ _ _ _ _ c.loop-key.invariant _ c.in-Some.ensures.steps c.in_ok-write_pair.ensures

-- no pair was left
pub returns : goal.returns
returns g c = line_ends On _ _ _ _ _ _ _ c.loop-key.invariant c.in-None.ensures.steps _ c.write_whole.ensures

pub range-key-items-requires : goal.range-key-items-requires
range-key-items-requires g c = (search fits, (search fits, (search fits, search fits)))

pub next-requires : goal.next-requires
next-requires g c = (search fits, (search fits, (search fits, tt)))

pub into_iter-key-iterator-requires-room-I-Iterator : goal.into_iter-key-iterator-requires-room-I-Iterator
into_iter-key-iterator-requires-room-I-Iterator g c κs within = search fits

pub into_iter-key-iterator-requires-room-I-Iterator-2 : goal.into_iter-key-iterator-requires-room-I-Iterator-2
into_iter-key-iterator-requires-room-I-Iterator-2 g c κs within = search fits

pub into_iter-key-iterator-requires-room-I-Iterator-3 : goal.into_iter-key-iterator-requires-room-I-Iterator-3
into_iter-key-iterator-requires-room-I-Iterator-3 g c κs within = search fits
