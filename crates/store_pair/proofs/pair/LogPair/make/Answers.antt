use Rattle.std.proofs.Common.{◌≡◌, inl, ℕ, List, [], true, false, refl, sym, ◌∙◌, subst}
use Rattle.store_log.specs.Log.{IsBlank, LeavesTexts}
use Rattle.store_log.specs.Spare.{IsOlder}
use Rattle.store_log.proofs.Spares.{blank_older}
use Rattle.store_pair.proofs.Pairs.{leave_pair}
use Rattle.store_pair.proofs.pair.LogPair.make.Goals as goal

pub invariant_of-result : goal.invariant_of-result
invariant_of-result g c =
    let empty = c.in-Ok-make.ensures.empty in
    let made = c.in-Ok-make.ensures.made.0 in
    let log = c.in-Ok-make.log in
    record {
      leaves = λ runs clean. subst (λ (t : List (List ℕ)). LeavesTexts log.head t (g.D.Disk.may_leave log.disk)) (sym (empty clean).0) (subst (λ h. LeavesTexts h [] (g.D.Disk.may_leave log.disk)) (sym made) (empty clean).1);
      older = λ runs clean spare_clean file left.
          let read : c.deref.result.now ≡ g.D.Disk.seen c.args.files.second = c.deref.ensures.value ∙ c.in-Ok.ensures.bytes spare_clean in
          let same : file ≡ g.D.Disk.seen c.args.files.second = c.requires.settled.1 file (c.read_all.ensures.crash file left) in
          let blank = c.is_blank.ensures.0 c.if-not-is_blank.false in
          subst (IsOlder log.head.generation) (read ∙ sym same) (blank_older log.head.generation c.deref.result.now blank);
    }

pub returns-in-Ok-make-clause-empty : goal.returns-in-Ok-make-clause-empty
returns-in-Ok-make-clause-empty g c clean =
    let empty = c.in-Ok-make.ensures.empty clean.0 in
    let made = c.in-Ok-make.ensures.made.0 in
    let read : c.deref.result.now ≡ g.D.Disk.seen c.args.files.second = c.deref.ensures.value ∙ c.in-Ok.ensures.bytes clean.1 in
    let blank = c.is_blank.ensures.0 c.if-not-is_blank.false in (
      empty.0,
      leave_pair g.D.Disk.may_leave false c.in-Ok-make.log.disk c.read_all.new.disk c.args.head [] empty.1 (λ file left.
          let same : file ≡ g.D.Disk.seen c.args.files.second = c.requires.settled.1 file (c.read_all.ensures.crash file left) in
          subst (IsOlder c.args.head.generation) (read ∙ sym same) (blank_older c.args.head.generation c.deref.result.now blank)),
    )

pub returns-in-Ok-make-clause-blank : goal.returns-in-Ok-make-clause-blank
returns-in-Ok-make-clause-blank g c clean =
    (c.in-Ok-make.ensures.blank clean.0, subst IsBlank (c.deref.ensures.value ∙ c.in-Ok.ensures.bytes clean.1) (c.is_blank.ensures.0 c.if-not-is_blank.false))

pub returns-clause-crash : goal.returns-clause-crash
returns-clause-crash g c clean blank left may =
    (c.in-Err-make.ensures.crash clean.0 blank.0 left.first may.0, subst IsBlank (sym (c.requires.settled.1 left.second (c.read_all.ensures.crash left.second may.1))) blank.1)

pub returns-in-Err-clause-kept : goal.returns-in-Err-clause-kept
returns-in-Err-clause-kept g c clean occupied = (record { same = refl; no_more = λ file left. left }, record { same = c.read_all.ensures.seen; no_more = c.read_all.ensures.crash })

pub returns-then-not-is_blank-clause-untouched : goal.returns-then-not-is_blank-clause-untouched
returns-then-not-is_blank-clause-untouched g c refusal = (record { same = refl; no_more = λ file left. left }, record { same = c.read_all.ensures.seen; no_more = c.read_all.ensures.crash })

pub returns-then-not-is_blank-clause-kept : goal.returns-then-not-is_blank-clause-kept
returns-then-not-is_blank-clause-kept g c clean occupied = (record { same = refl; no_more = λ file left. left }, record { same = c.read_all.ensures.seen; no_more = c.read_all.ensures.crash })

pub returns-then-not-is_blank-clause-occupied : goal.returns-then-not-is_blank-clause-occupied
returns-then-not-is_blank-clause-occupied g c clean refusal blank =
    let read : c.deref.result.now ≡ g.D.Disk.seen c.args.files.second = c.deref.ensures.value ∙ c.in-Ok.ensures.bytes clean.1 in
    let is : c.is_blank.result ≡ true = c.is_blank.ensures.1 (subst IsBlank (sym read) blank.1) in
    let z : ⊥ = cc (is, c.if-not-is_blank.true) in
    absurd z

pub returns-clause-untouched : goal.returns-clause-untouched
returns-clause-untouched g c refusal = (c.in-Err-make.ensures.untouched refusal, record { same = c.read_all.ensures.seen; no_more = c.read_all.ensures.crash })

pub returns-clause-occupied : goal.returns-clause-occupied
returns-clause-occupied g c clean refusal blank = c.in-Err-make.ensures.occupied clean.0 refusal blank.0

pub returns-clause-kept : goal.returns-clause-kept
returns-clause-kept g c clean occupied =
    let read : c.deref.result.now ≡ g.D.Disk.seen c.args.files.second = c.deref.ensures.value ∙ c.in-Ok.ensures.bytes clean.1 in
    let other = subst IsBlank read (c.is_blank.ensures.0 c.if-not-is_blank.false) in
    (c.in-Err-make.ensures.kept clean.0 (λ blank. occupied (blank, other)), record { same = c.read_all.ensures.seen; no_more = c.read_all.ensures.crash })

pub returns-in-Err-clause-crash : goal.returns-in-Err-clause-crash
returns-in-Err-clause-crash g c clean blank left may =
    (inl (subst IsBlank (sym (c.requires.settled.0 left.first may.0)) blank.0), subst IsBlank (sym (c.requires.settled.1 left.second (c.read_all.ensures.crash left.second may.1))) blank.1)

pub returns-then-not-is_blank-clause-crash : goal.returns-then-not-is_blank-clause-crash
returns-then-not-is_blank-clause-crash g c clean blank left may =
    (inl (subst IsBlank (sym (c.requires.settled.0 left.first may.0)) blank.0), subst IsBlank (sym (c.requires.settled.1 left.second (c.read_all.ensures.crash left.second may.1))) blank.1)
