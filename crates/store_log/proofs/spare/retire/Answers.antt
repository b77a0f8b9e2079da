use Rattle.sqlite_disk.specs.Disk.{Cut}
use Rattle.store_log.proofs.Spares.{older_after, shut_cut, shut_older}
use Rattle.store_log.proofs.spare.retire.Goals as goal

pub returns-in_err-set_len-clause-older : goal.returns-in_err-set_len-clause-older
returns-in_err-set_len-clause-older g c generation clean older =
    let was = c.set_len.ensures.clean clean in
    let seen = g.D.Disk.seen c.shut_off.new.disk in
    older_after generation seen (Cut 1) (g.D.Disk.may_leave c.shut_off.new.disk) (g.D.Disk.may_leave c.set_len.new.self) c.in_ok-shut_off.ensures.durable c.set_len.ensures.crash
    (c.shut_off.ensures.older generation was older) (λ file o cut. shut_older generation file (shut_cut seen file (c.in_ok-shut_off.ensures.shut was) cut))

pub returns-clause-older : goal.returns-clause-older
returns-clause-older g c generation clean older =
    let was = c.set_len.ensures.clean clean in
    let seen = g.D.Disk.seen c.shut_off.new.disk in
    older_after generation seen (Cut 1) (g.D.Disk.may_leave c.shut_off.new.disk) (g.D.Disk.may_leave c.set_len.new.self) c.in_ok-shut_off.ensures.durable c.set_len.ensures.crash
    (c.shut_off.ensures.older generation was older) (λ file o cut. shut_older generation file (shut_cut seen file (c.in_ok-shut_off.ensures.shut was) cut))
