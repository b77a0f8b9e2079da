use Rattle.std.proofs.Common.{◌≡◌, ℕ, ◌<◌, List, [], ◌∷◌, ◌++◌, ap, subst, arith}
use Rattle.std.proofs.lemmas.Bool.Decides.{nat_tests}
use Rattle.store_frames.specs.Frame.{batches_of}
use Rattle.store_frames.specs.Seal.{sealed}
use Rattle.store_log.specs.Rest.{IsAtRest, LeavesTheseOr}
use Rattle.store_log.specs.Log.{LeavesTexts, contents_of}
use Rattle.store_log.specs.declared.frame_file.FrameFile.{FrameFile}
use Rattle.store_log.proofs.Causes.{caused_then}
use Rattle.store_log.proofs.Returned.{ok_after, err_after, with_room}
use Rattle.store_log.proofs.Texts.{before_or_after, kept_leaves, kept_more, more_texts, same_texts, still_kept}
use Rattle.store_log.proofs.log.Log.append.Goals as goal

pub append-requires : goal.append-requires
append-requires g c κs within =
    let some : 0 < c.self.inside.file.room = grind (arith, nat_tests) in
    (within, (c.self.invariant.usable some, λ clean. (c.self.invariant.kept some clean).rest))

pub invariant_of-self : goal.invariant_of-self
invariant_of-self g c =
    let seen = g.D.Disk.seen in
    let may_leave = g.D.Disk.may_leave in
    let file = c.self.inside.file in
    let new = c.append.new.self in
    let batches = batches_of (seen file.disk) in
    let some : 0 < file.room = grind (arith, nat_tests) in
    let same : c.args.text.now ++ c.seal_of-seal.result ≡ sealed c.self.inside.head.key c.args.text.now = ap (λ (l : List ℕ). c.args.text.now ++ l) c.seal_of-seal.ensures in
    record {
      usable = λ left. with_room c.append.result new.room left c.append.ensures.usable c.append.ensures.refused (λ usable. usable) (λ u. u.0);
      kept = λ left clean.
          let k = c.self.invariant.kept some (c.append.ensures.clean clean) in
          with_room c.append.result new.room left c.append.ensures.appended c.append.ensures.refused
          (λ rest. kept_more seen may_leave c.self.inside.head file k c.args.text.now new (subst (λ (b : List ℕ). IsAtRest seen may_leave (batches ++ b ∷ []) new) same (rest clean)))
          (λ rest. still_kept seen may_leave c.self.inside.head file k new (rest.1 clean));
    }

pub returns-clause-appended : goal.returns-clause-appended
returns-clause-appended g c =
    let seen = g.D.Disk.seen in
    let may_leave = g.D.Disk.may_leave in
    let file = c.self.inside.file in
    let new = c.append.new.self in
    let batches = batches_of (seen file.disk) in
    let some : 0 < file.room = grind (arith, nat_tests) in
    let same : c.args.text.now ++ c.seal_of-seal.result ≡ sealed c.self.inside.head.key c.args.text.now = ap (λ (l : List ℕ). c.args.text.now ++ l) c.seal_of-seal.ensures in
    rw (← c.self.view_is) (ok_after c.append.result c.append.ensures.appended
    (λ rest clean. more_texts seen may_leave c.self.inside.head file (c.self.invariant.kept some (c.append.ensures.clean clean)) c.args.text.now new (subst (λ (b : List ℕ). IsAtRest seen may_leave (batches ++ b ∷ []) new) same (rest clean))))

pub returns-clause-kept : goal.returns-clause-kept
returns-clause-kept g c =
    let seen = g.D.Disk.seen in
    let may_leave = g.D.Disk.may_leave in
    let file = c.self.inside.file in
    let new = c.append.new.self in
    let batches = batches_of (seen file.disk) in
    let some : 0 < file.room = grind (arith, nat_tests) in
    let same : c.args.text.now ++ c.seal_of-seal.result ≡ sealed c.self.inside.head.key c.args.text.now = ap (λ (l : List ℕ). c.args.text.now ++ l) c.seal_of-seal.ensures in
    ok_after c.append.result c.append.ensures.appended
    (λ rest clean. kept_leaves seen may_leave c.self.inside.head new (kept_more seen may_leave c.self.inside.head file (c.self.invariant.kept some (c.append.ensures.clean clean)) c.args.text.now new (subst (λ (b : List ℕ). IsAtRest seen may_leave (batches ++ b ∷ []) new) same (rest clean))))

pub returns-clause-runs : goal.returns-clause-runs
returns-clause-runs g c = ok_after c.append.result c.append.ensures.room (λ some. grind (arith, nat_tests, some))

pub returns-clause-refused : goal.returns-clause-refused
returns-clause-refused g c =
    let seen = g.D.Disk.seen in
    let may_leave = g.D.Disk.may_leave in
    let file = c.self.inside.file in
    let new = c.append.new.self in
    let some : 0 < file.room = grind (arith, nat_tests) in
    rw (← c.self.view_is) (err_after c.append.result new.room c.append.ensures.refused (λ none. grind (arith, nat_tests, none))
    (λ rest clean.
    let k = c.self.invariant.kept some (c.append.ensures.clean clean) in
    let texts = same_texts seen may_leave c.self.inside.head file k new (rest.1 clean) in
    (texts, subst (λ (t : List (List ℕ)). LeavesTexts c.self.inside.head t (may_leave new.disk)) texts (kept_leaves seen may_leave c.self.inside.head new (still_kept seen may_leave c.self.inside.head file k new (rest.1 clean))))))

pub returns-clause-cause : goal.returns-clause-cause
returns-clause-cause g c =
    rw (← c.self.view_is) (caused_then _ c.append.result (λ (same : c.append.new.self ≡ c.self.inside.file). ap (λ (f : FrameFile g.row.D.Denot). contents_of g.D.Disk.seen c.self.inside.head f) same) c.append.ensures.cause)

pub returns-clause-crash : goal.returns-clause-crash
returns-clause-crash g c clean runs =
    let seen = g.D.Disk.seen in
    let may_leave = g.D.Disk.may_leave in
    let file = c.self.inside.file in
    let some : 0 < file.room = grind (arith, nat_tests) in
    let same : c.args.text.now ++ c.seal_of-seal.result ≡ sealed c.self.inside.head.key c.args.text.now = ap (λ (l : List ℕ). c.args.text.now ++ l) c.seal_of-seal.ensures in
    rw (← c.self.view_is) (before_or_after seen may_leave c.self.inside.head file (c.self.invariant.kept some (c.append.ensures.clean clean)) c.args.text.now (may_leave c.append.new.self.disk)
    (subst (λ (b : List ℕ). LeavesTheseOr (batches_of (seen file.disk)) b (may_leave c.append.new.self.disk)) same (c.append.ensures.crash clean)))
