use Rattle.std.proofs.Common.{◌∙◌}
use Rattle.tree_index.proofs.Indexed.{upsert_refused, upserted}
use Rattle.tree_index.proofs.index.TreeIndexOf.upsert_sync.Goals as goal

pub returns-in-Ok-clause-pairs : goal.returns-in-Ok-clause-pairs
returns-in-Ok-clause-pairs g c = (upserted g.row.LEN g.K.Ord.cmp _ _ c.args.key c.args.value c.in-Ok.field-0 c.in-Ok.ensures).0

pub returns-in-Ok-clause-spare : goal.returns-in-Ok-clause-spare
returns-in-Ok-clause-spare g c = (upserted g.row.LEN g.K.Ord.cmp _ _ c.args.key c.args.value c.in-Ok.field-0 c.in-Ok.ensures).1

pub returns-in-Err-clause-pairs : goal.returns-in-Err-clause-pairs
returns-in-Err-clause-pairs g c =
    let back = upsert_refused g.row.LEN g.K.Ord.cmp _ _ c.args.key c.args.value c.in-Err.refused c.in-Err.ensures in
    (c.into_pair.ensures ∙ back.0, back.1)

pub returns-in-Err-clause-spare : goal.returns-in-Err-clause-spare
returns-in-Err-clause-spare g c = (upsert_refused g.row.LEN g.K.Ord.cmp _ _ c.args.key c.args.value c.in-Err.refused c.in-Err.ensures).2

pub returns-in-Ok-clause-packed : goal.returns-in-Ok-clause-packed
returns-in-Ok-clause-packed g c = (upserted g.row.LEN g.K.Ord.cmp _ _ c.args.key c.args.value c.in-Ok.field-0 c.in-Ok.ensures).2
