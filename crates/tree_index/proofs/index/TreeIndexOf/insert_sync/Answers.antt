use Rattle.tree_model.proofs.Common.{err_from_is_err_and}
use Rattle.tree_node.proofs.Common.{fits}
use Rattle.tree_index.proofs.Indexed.{inserted, not_inserted}
use Rattle.tree_index.proofs.index.TreeIndexOf.insert_sync.Goals as goal

pub returns-clause-pairs : goal.returns-clause-pairs
returns-clause-pairs g c = let told = inserted g.row.LEN g.K.Ord.cmp _ _ c.args.key c.args.value c.in_ok-store.field-0 c.in_ok-store.ensures in (told.0, told.1)

pub returns-clause-spare : goal.returns-clause-spare
returns-clause-spare g c = (inserted g.row.LEN g.K.Ord.cmp _ _ c.args.key c.args.value c.in_ok-store.field-0 c.in_ok-store.ensures).2

pub returns-in_err-store-clause-pairs : goal.returns-in_err-store-clause-pairs
returns-in_err-store-clause-pairs g c =
    let failed = err_from_is_err_and c.from_residual.result c.from_residual.ensures.1 in
    rw (failed.1, failed.2) (not_inserted g.row.LEN g.K.Ord.cmp _ _ c.args.key c.args.value c.in_err-store.field-0.0 c.in_err-store.ensures).0

pub returns-in_err-store-clause-spare : goal.returns-in_err-store-clause-spare
returns-in_err-store-clause-spare g c =
    let failed = err_from_is_err_and c.from_residual.result c.from_residual.ensures.1 in
    rw (failed.1, failed.2) (not_inserted g.row.LEN g.K.Ord.cmp _ _ c.args.key c.args.value c.in_err-store.field-0.0 c.in_err-store.ensures).1

pub returns-clause-packed : goal.returns-clause-packed
returns-clause-packed g c = (inserted g.row.LEN g.K.Ord.cmp _ _ c.args.key c.args.value c.in_ok-store.field-0 c.in_ok-store.ensures).3

pub store-requires : goal.store-requires
store-requires g c = search fits
