use Rattle.tree_batches.proofs.writes.upsert_each.Goals as goal

pub push_front_reserved-requires : goal.push_front_reserved-requires
push_front_reserved-requires g c = c.in-Err.ensures.1

pub returns-in-Ok : goal.returns-in-Ok
returns-in-Ok g c = rw c.from-left.ensures.0 at c.in-Ok.ensures

pub returns-in-Err : goal.returns-in-Err
returns-in-Err g c = rw (c.from-back.ensures.0, c.push_front_reserved.ensures.items) (rw c.from-left.ensures.0 at c.in-Err.ensures.0)
