use Rattle.tree_remove.proofs.Common.{fits}
use Rattle.tree_remove.proofs.EntryPlaces.{entry_emptied, entry_settled, entry_stays, found_in_leaf}
use Rattle.tree_remove.proofs.entries.take_entry.Goals.{in-Retired, in_default}
use Rattle.tree_remove.proofs.entries.take_entry.Goals as goal

pub take_slot-key-requires : goal.take_slot-key-requires
take_slot-key-requires g c =
    let entry = c.requires.entry in
    (search fits, (search fits, (entry.0, entry.1.stored, found_in_leaf g.met.K.Ord.total c.requires.node entry.1)))

pub drop_emptied-result-requires : goal.drop_emptied-result-requires
drop_emptied-result-requires g c =
    let emptied = entry_emptied g.met.K.Ord.total c.requires.node c.requires.entry.1 c.take_slot-key.ensures.taken c.take_slot-key.ensures.removes
    c.in-Retired.is in
    (search fits, (search fits, (c.requires.node, (c.args.arenas.now, emptied))))

pub returns : goal.returns
returns g c =
    let took = c.take_slot-key.ensures in
    let emptied = entry_emptied g.met.K.Ord.total c.requires.node c.requires.entry.1 took.taken took.removes in
    let stays = entry_stays g.met.K.Ord.total c.requires.node c.requires.entry.1 took.taken took.removes in
    let settled = entry_settled g.met.K.Ord.total c.requires.node c.requires.entry.1 took.taken took.removes in
    record {
      taken = took.taken;
      removes = elim c.match-removal.branch [
        | in-Retired w ↦ rw (w.arenas-is, w.result-is) (w.drop_emptied-result.ensures c.args.arenas.now (emptied w.in-Retired.is)).removes
        | in_default w ↦ rw (w.arenas-is, w.result-is) (stays w.in_default.not-Retired)
      ];
      settled = elim c.match-removal.branch [
        | in-Retired w ↦ rw (w.arenas-is, w.result-is) (w.drop_emptied-result.ensures c.args.arenas.now (emptied w.in-Retired.is)).settled
        | in_default w ↦ rw (w.arenas-is, w.result-is) (λ one success. settled (took.settled success) one)
      ];
    }
