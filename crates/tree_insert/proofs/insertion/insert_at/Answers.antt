use Rattle.tree_insert.proofs.Common.{Ok, ap, fits, part_not_retired}
use Rattle.tree_insert.proofs.insertion.insert_at.Goals as goal

pub insert_crowded-requires : goal.insert_crowded-requires
insert_crowded-requires g c =
    let back = c.in-Err.ensures.crowded in
    (search fits, (search fits, (c.requires.node, rw (back.0, back.1) back.3)))

pub returns-in-Ok-clause-retired : goal.returns-in-Ok-clause-retired
returns-in-Ok-clause-retired g c retired =
    let full = c.in-Ok.ensures.retired retired in
    (ap Ok full.0, full.1)

pub returns-in-Err-clause-retired : goal.returns-in-Err-clause-retired
returns-in-Err-clause-retired g c retired =
    let back = c.in-Err.ensures.crowded in
    absurd (part_not_retired g.met.K.Ord.total c.args.arenas.now c.args.key c.args.level c.requires.node c.args.id back.3.0 retired)
