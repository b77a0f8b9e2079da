use Rattle.std.proofs.Common.{nat_cmp}
use Rattle.tree_model.proofs.Common.{err_from_is_err_and}
use Rattle.tree_model.specs.declared.way.Way.TheVariants.{Back}
use Rattle.tree_node.proofs.Common.{fits}
use Rattle.tree_cursors.proofs.Moving.{comes_nearer}
use Rattle.tree_lines.proofs.Pieces.{line_ends, line_fails, line_goes_on, line_back_of_all}
use Rattle.tree_lines.proofs.pairs.write_descending.Goals as goal

pub loop-key-init : goal.loop-key-init
loop-key-init g c = rw c.iter-pairs.ensures (line_back_of_all _ _)

-- the write of a pair failed
pub returns-in_err-write_pair : goal.returns-in_err-write_pair
returns-in_err-write_pair g c =
    let failed = err_from_is_err_and c.from_residual.result c.from_residual.ensures.1 in
    rw failed.1 (line_fails Back _ _ _ _ _ _ _ c.loop-key.invariant _ c.in-Some.ensures.steps c.in_err-write_pair.ensures)

pub loop-key-smaller : goal.loop-key-smaller
loop-key-smaller g c = comes_nearer nat_cmp Back _ _ _ c.in-Some.ensures.steps

-- the pair was written
pub loop-key-preserved : goal.loop-key-preserved
loop-key-preserved g c = line_goes_on Back _ _ _ _ _ _ _ c.loop-key.invariant _ c.in-Some.ensures.steps c.in_ok-write_pair.ensures

-- no pair was left
pub returns : goal.returns
returns g c = line_ends Back _ _ _ _ _ _ _ c.loop-key.invariant c.in_default.ensures.steps _ c.write_whole.ensures

pub iter-pairs-requires : goal.iter-pairs-requires
iter-pairs-requires g c = (search fits, (search fits, (search fits, search fits)))

pub next_back-requires : goal.next_back-requires
next_back-requires g c = (search fits, (search fits, (search fits, tt)))
