use Rattle.tree_store.proofs.replay.apply.Goals.{in-Ok, in-Err}
use Rattle.tree_node.proofs.Common.{fits}
use Rattle.tree_store.proofs.replay.apply.Goals as goal

pub upsert_sync-requires : goal.upsert_sync-requires
upsert_sync-requires g c = search fits

pub remove_sync-requires : goal.remove_sync-requires
remove_sync-requires g c = search fits

pub remove_range_sync-requires : goal.remove_range_sync-requires
remove_range_sync-requires g c = search fits

pub clear-requires : goal.clear-requires
clear-requires g c = search fits

pub returns-after-upsert_sync : goal.returns-after-upsert_sync
returns-after-upsert_sync g c = elim c.match-upsert_sync.branch [ in-Ok w ↦ rw (w.result-is, c.in-Put.is) w.in-Ok.ensures.pairs | in-Err w ↦ rw (w.result-is) search ]
