use Rattle.std.proofs.Common.{◌<◌, ℕ, List, sym, ap, subst, arith}
use Rattle.std.proofs.lemmas.Bool.Decides.{nat_tests}
use Rattle.store_log.specs.Log.{HasTexts, texts_of}
use Rattle.store_log.proofs.Returned.{if_ok_then}
use Rattle.store_log.proofs.Texts.{kept_has, read_again}
use Rattle.store_log.proofs.log.Log.read.Goals as goal

pub read_all-requires : goal.read_all-requires
read_all-requires g c =
    let some : 0 < c.self.inside.file.room = grind (arith, nat_tests) in
    c.self.invariant.usable some

pub invariant_of-self : goal.invariant_of-self
invariant_of-self g c =
    let file = c.self.inside.file in
    let some : 0 < file.room = grind (arith, nat_tests) in
    record {
      usable = λ left. c.read_all.ensures.usable;
      kept = λ left clean.
          read_again g.D.Disk.seen g.D.Disk.may_leave c.self.inside.head file (c.self.invariant.kept some (c.read_all.ensures.clean clean)) c.read_all.new.disk c.read_all.ensures.seen c.read_all.ensures.crash;
    }

pub returns-clause-texts : goal.returns-clause-texts
returns-clause-texts g c =
    let file = c.self.inside.file in
    let seen = g.D.Disk.seen in
    let head = c.self.inside.head in
    let some : 0 < file.room = grind (arith, nat_tests) in
    let texts = ap texts_of c.read_all.ensures.seen in
    if_ok_then c.read_all.result c.read_all.ensures.bytes (λ bytes are clean.
    let has = kept_has seen g.D.Disk.may_leave head file (c.self.invariant.kept some (c.read_all.ensures.clean clean)) in
    subst (HasTexts head (texts_of (seen c.read_all.new.disk))) (sym (are clean)) (subst (λ (t : List (List ℕ)). HasTexts head t (seen file.disk)) (sym texts) has))

pub returns-clause-same : goal.returns-clause-same
returns-clause-same g c = rw (← c.self.view_is) (ap texts_of c.read_all.ensures.seen)
