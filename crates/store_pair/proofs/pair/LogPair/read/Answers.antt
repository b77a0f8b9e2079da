use Rattle.store_pair.proofs.Pairs.{clean_parts, no_more_left, read_pair, still_clean}
use Rattle.store_log.proofs.Returned.{if_ok_then}
use Rattle.store_pair.proofs.pair.LogPair.read.Goals as goal

pub invariant_of-self : goal.invariant_of-self
invariant_of-self g c = read_pair g.D.Disk.is_clean g.D.Disk.may_leave c.self.inside.log c.read.new.self c.self.inside.spare c.read.ensures.head c.read.ensures.same c.read.ensures.stopped c.read.ensures.crash c.read.ensures.clean c.self.invariant

pub returns : goal.returns
returns g c =
    let inside = c.self.inside in
    let texts = if_ok_then c.read.result c.read.ensures.texts (λ bytes texts clean. texts (clean_parts g.D.Disk.is_clean inside.swapped c.read.new.self.disk inside.spare clean).0) in
    let crash = no_more_left g.D.Disk.may_leave inside.swapped inside.log.disk inside.spare c.read.new.self.disk c.read.ensures.crash in
    let clean = still_clean g.D.Disk.is_clean inside.swapped inside.log.disk inside.spare c.read.new.self.disk c.read.ensures.clean in
    rw (← c.self.view_is) (record { texts = texts; head = c.read.ensures.head; same = c.read.ensures.same; stopped = c.read.ensures.stopped; crash = crash; clean = clean })
