use Rattle.tree_node.proofs.Common.{fits}
use Rattle.std.proofs.Common.{subst}
use Rattle.tree_state.specs.Inserts.{RecordsInsert}
use Rattle.tree_state.proofs.state.StateOf.insert.Goals as goal

pub returns-in-Ok : goal.returns-in-Ok
returns-in-Ok g c = subst (λ (p : g.row.K.Denot × g.row.V.Denot). RecordsInsert g.K.Ord.cmp g.K.SameClone.seen g.V.SameClone.seen c.args.self.now c.insert_prepared.new.self p.0 p.1 c.insert_prepared.result) c.in-Ok.ensures.pair c.insert_prepared.ensures

pub insert_prepared-requires : goal.insert_prepared-requires
insert_prepared-requires g c = search fits
