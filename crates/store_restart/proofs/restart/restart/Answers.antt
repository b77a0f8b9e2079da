use Rattle.store_pair.specs.Pair.{held_in}
use Rattle.store_restart.proofs.Fronts.{err_so, ok_so}
use Rattle.store_restart.proofs.restart.restart.Goals as goal

pub returns-in-Ok-clause-found : goal.returns-in-Ok-clause-found
returns-in-Ok-clause-found g c = ok_so c.open.result c.open.ensures.opened (λ store opened clean. (held_in g.D.Disk.seen c.stop_both.new.files, c.in-Ok.ensures.left, opened clean))

pub returns-in-Ok-clause-sound : goal.returns-in-Ok-clause-sound
returns-in-Ok-clause-sound g c = err_so c.open.result c.open.ensures.sound (λ e sound clean refuses. (held_in g.D.Disk.seen c.stop_both.new.files, c.in-Ok.ensures.left, λ pairs. sound clean refuses pairs))

pub returns-in-Ok-clause-clean : goal.returns-in-Ok-clause-clean
returns-in-Ok-clause-clean g c = ok_so c.open.result c.open.ensures.clean (λ store cleaner clean. c.stop_both.ensures.clean (cleaner clean))

pub returns-in-Ok-clause-clean_err : goal.returns-in-Ok-clause-clean_err
returns-in-Ok-clause-clean_err g c = err_so c.open.result c.open.ensures.clean_err (λ e cleaner clean. c.stop_both.ensures.clean (cleaner clean))

pub returns-in-Err-clause-sound : goal.returns-in-Err-clause-sound
returns-in-Err-clause-sound g c clean refuses = absurd (c.failed.ensures refuses)
