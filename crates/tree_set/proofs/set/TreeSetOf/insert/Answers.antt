use Rattle.tree_node.proofs.Common.{fits}
use Rattle.tree_set.proofs.Keys.{inserted, not_inserted, refused}
use Rattle.tree_set.proofs.set.TreeSetOf.insert.Goals as goal

pub insert_sync-requires : goal.insert_sync-requires
insert_sync-requires g c = search fits

pub returns-in-Ok : goal.returns-in-Ok
returns-in-Ok g c = rw (← c.self.view_is) (inserted g.K.Ord.cmp c.self.inside.index.pairs _ c.args.element c.in-Ok.ensures.pairs.0 c.in-Ok.ensures.pairs.1)

pub returns-in-Err-Duplicate : goal.returns-in-Err-Duplicate
returns-in-Err-Duplicate g c =
    let told = rw c.in-Err-Duplicate.field-0-is at c.in-Err-Duplicate.ensures.pairs in
    rw (← c.self.view_is) (not_inserted g.K.Ord.cmp c.self.inside.index.pairs _ c.args.element told.0 told.3)

pub returns : goal.returns
returns g c =
    let told = rw c.in-Err-OutOfMemory.field-0-is at c.in-Err-OutOfMemory.ensures.pairs in
    rw (← c.self.view_is) (refused g.K.Ord.cmp c.self.inside.index.pairs _ c.args.element _ told.0 told.1 told.3)
