use Rattle.store_pair.proofs.Pairs.{clean_parts, no_more_left, read_pair, still_clean}
use Rattle.store_log.proofs.Returned.{if_err_then}
use Rattle.store_pair.proofs.pair.LogPair.verify.Goals as goal

pub invariant_of-self : goal.invariant_of-self
invariant_of-self g c = read_pair g.D.Disk.is_clean g.D.Disk.may_leave c.self.inside.log c.verify.new.self c.self.inside.spare c.verify.ensures.head c.verify.ensures.same c.verify.ensures.stopped c.verify.ensures.crash c.verify.ensures.clean c.self.invariant

pub returns : goal.returns
returns g c =
    let inside = c.self.inside in
    let sound = if_err_then c.verify.result c.verify.ensures.sound (λ error sound refusal clean. sound refusal (clean_parts g.D.Disk.is_clean inside.swapped c.verify.new.self.disk inside.spare clean).0) in
    let crash = no_more_left g.D.Disk.may_leave inside.swapped inside.log.disk inside.spare c.verify.new.self.disk c.verify.ensures.crash in
    let clean = still_clean g.D.Disk.is_clean inside.swapped inside.log.disk inside.spare c.verify.new.self.disk c.verify.ensures.clean in
    rw (← c.self.view_is) (record { sound = sound; head = c.verify.ensures.head; same = c.verify.ensures.same; stopped = c.verify.ensures.stopped; crash = crash; clean = clean })
