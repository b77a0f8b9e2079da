use Rattle.store_pair.proofs.Pairs.{clean_parts, used_one}
use Rattle.store_pair.proofs.pair.LogPair.end.Goals as goal

pub returns : goal.returns
returns g c =
    let inside = c.self.inside in
    rw (← c.self.view_is) (λ clean runs. used_one g.D.Disk.seen inside.swapped inside.log.disk inside.spare c.end.result (c.end.ensures (clean_parts g.D.Disk.is_clean inside.swapped inside.log.disk inside.spare clean).0 runs))
