use Rattle.std.proofs.Common.{ℕ, ◌+◌, List, ◌∷◌, ◌++◌, length, drop, ◌∙◌, ap, arith}
use Rattle.std.proofs.lemmas.Result.{err_from_is_err_and}
use Rattle.sqlite_disk.specs.Disk.{Torn}
use Rattle.store_log.proofs.Returned.{if_err_then, ok_after}
use Rattle.store_log.proofs.Spares.{older_after, shut_older, shut_stays, staged_back, staged_front}
use Rattle.store_log.proofs.spare.stage.Goals as goal

pub returns-in_err-write_synced-clause-older : goal.returns-in_err-write_synced-clause-older
returns-in_err-write_synced-clause-older g c generation clean older =
    let was = c.write_synced.ensures.clean clean in
    let seen = g.D.Disk.seen c.shut_off.new.disk in
    let n = length c.split_at.result.1.now in
    older_after generation seen (Torn 1 n) (g.D.Disk.may_leave c.shut_off.new.disk) (g.D.Disk.may_leave c.write_synced.new.disk) c.in_ok-shut_off.ensures.durable c.write_synced.ensures.crash
    (c.shut_off.ensures.older generation was older) (λ file o torn. shut_older generation file (shut_stays 1 n seen file (omega arith) (c.in_ok-shut_off.ensures.shut was) torn))

pub returns-clause-staged : goal.returns-clause-staged
returns-clause-staged g c =
    ok_after c.write_synced-2.result c.write_synced-2.ensures.written (λ written clean.
    let shut = c.in_ok-shut_off.ensures.shut (c.write_synced.ensures.clean (c.write_synced-2.ensures.clean clean)) in
    let behind = c.split_at.result.1.now in
    let text = c.args.text.now in
    let at = length c.args.head.now in
    let first = g.D.Disk.seen c.write_synced.new.disk in
    let last = g.D.Disk.seen c.write_synced-2.new.disk in
    let front = staged_front behind (g.D.Disk.seen c.shut_off.new.disk) first shut c.write_synced.ensures.others (c.in_ok-write_synced.ensures.written (omega (arith, c.split_at.ensures.back_len, c.requires.head))) in
    let back = staged_back (0 ∷ behind) (drop (1 + length behind) first) text first last at front (omega (arith, c.split_at.ensures.back_len, c.requires.head)) c.write_synced-2.ensures.others (written c.requires.text) in
    (drop (at + length text) last, back ∙ ap (λ (b : List ℕ). 0 ∷ (b ++ (text ++ drop (at + length text) last))) c.split_at.ensures.back))

pub returns-in_err-shut_off-clause-cause : goal.returns-in_err-shut_off-clause-cause
returns-in_err-shut_off-clause-cause g c =
    let p = err_from_is_err_and c.from_residual.result c.from_residual.ensures.1 in
    rw (p.1, p.2) c.in_err-shut_off.ensures.cause

pub returns-in_err-write_synced-clause-cause : goal.returns-in_err-write_synced-clause-cause
returns-in_err-write_synced-clause-cause g c =
    let p = err_from_is_err_and c.from_residual-in_err-write_synced.result c.from_residual-in_err-write_synced.ensures.1 in
    rw (p.1, p.2) c.in_err-write_synced.ensures.cause.0

pub returns-clause-cause : goal.returns-clause-cause
returns-clause-cause g c = if_err_then c.write_synced-2.result c.write_synced-2.ensures.cause (λ e cause. cause.0)
