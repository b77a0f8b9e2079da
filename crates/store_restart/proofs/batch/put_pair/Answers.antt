use Rattle.store_restart.proofs.batch.put_pair.Goals.{in-Ok, in-Err}
use Rattle.store_restart.proofs.batch.put_pair.Goals as goal

pub returns-clause-made : goal.returns-clause-made
returns-clause-made g c = elim c.match-upsert.branch [ in-Ok w ↦ rw w.result-is w.in-Ok.ensures.pairs | in-Err w ↦ rw w.result-is search ]
