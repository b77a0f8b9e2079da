use Rattle.tree_remove.proofs.Common.{Ok, ap, fits}
use Rattle.tree_remove.proofs.Ways.{fails_at}
use Rattle.tree_remove.proofs.removal.remove_at.Goals as goal

pub returns-in_default-clause-removes : goal.returns-in_default-clause-removes
returns-in_default-clause-removes g c = fails_at g.K.Ord.cmp _ c.args.key.now c.args.level c.requires.node c.args.arenas.now c.args.id c.in_default.ensures.way

pub remove_beside-requires : goal.remove_beside-requires
remove_beside-requires g c =
    let child = c.in-Some.ensures.child in
    (search fits, (search fits, (c.requires.node, ((c.in-Some.place.node, (child.0, c.in-Some.ensures.way, child.1)), c.requires.callable))))

pub remove_alone-requires : goal.remove_alone-requires
remove_alone-requires g c =
    let same = c.in-Err.ensures.handed_back in
    let child = c.in-Some.ensures.child in
    (search fits, (search fits, (c.requires.node, (rw same.1 (c.in-Some.place.node, (child.0, c.in-Some.ensures.way, child.1)), rw (same.1, same.0) c.requires.callable))))

pub returns-in-Ok-true-clause-removes : goal.returns-in-Ok-true-clause-removes
returns-in-Ok-true-clause-removes g c = rw c.in-Ok-true.field-0-test at c.in-Ok-true.ensures.removes

pub returns-in-Ok-true-clause-settled : goal.returns-in-Ok-true-clause-settled
returns-in-Ok-true-clause-settled g c one success = c.in-Ok-true.ensures.settled (ap Ok c.in-Ok-true.field-0-test) one

pub returns-in-Ok-false-clause-removes : goal.returns-in-Ok-false-clause-removes
returns-in-Ok-false-clause-removes g c = rw c.in-Ok-false.field-0-test at c.in-Ok-false.ensures.removes

pub returns-in-Err-clause-removes : goal.returns-in-Err-clause-removes
returns-in-Err-clause-removes g c =
    let same = c.in-Err.ensures.handed_back in
    rw (same.0, same.1) at c.remove_alone.ensures.removes
