use Rattle.std.proofs.Common.{◌≡◌, inl, ◌++◌, ◌∷◌, [], List, ℕ, length, OnOk, IsTrue, refl, sym, ◌∙◌, ap, subst, arith, length-append}
use Rattle.std.proofs.lemmas.Result.{err_from_is_err_and}
use Rattle.store_frames.specs.Frame.{frame}
use Rattle.store_log.specs.Rest.{IsAtRest, LeavesTheseOr}
use Rattle.store_log.proofs.AtRest.{leaves_at_rest, unframed}
use Rattle.store_log.proofs.frame_file.FrameFile.append.Goals as goal

pub returns-then-text-gt-LONGEST_TEXT-clause-crash : goal.returns-then-text-gt-LONGEST_TEXT-clause-crash
returns-then-text-gt-LONGEST_TEXT-clause-crash g c clean file left = inl (leaves_at_rest g.D.Disk.seen g.D.Disk.may_leave g.batches c.args.self.now (c.requires.1.1 clean) file left)

pub returns-in_err-frame-clause-crash : goal.returns-in_err-frame-clause-crash
returns-in_err-frame-clause-crash g c clean file left = inl (leaves_at_rest g.D.Disk.seen g.D.Disk.may_leave g.batches c.args.self.now (c.requires.1.1 clean) file left)

pub returns-in_err-frame-clause-cause : goal.returns-in_err-frame-clause-cause
returns-in_err-frame-clause-cause g c =
    let p = err_from_is_err_and c.from_residual.result c.from_residual.ensures.1 in
    rw (p.1, p.2) refl

pub append_frame-requires : goal.append_frame-requires
append_frame-requires g c κs within =
    let batch = c.args.text.now ++ c.args.seal.now in
    let is : c.deref.result.now ≡ frame batch ++ 0 ∷ [] = c.deref.ensures.value ∙ c.in_ok-frame.ensures in
    let same = unframed c.deref.result.now batch is in (
      within,
      (
        c.requires.1.0,
        (
          c.requires.1.1,
          (
            is ∙ ap (λ (l : List ℕ). frame l ++ 0 ∷ []) (sym same),
            (omega (arith, ap length same, length-append c.args.text.now c.args.seal.now), c.if-self-gt-FULL.false),
          ),
        ),
      ),
    )

pub returns-clause-appended : goal.returns-clause-appended
returns-clause-appended g c =
    let batch = c.args.text.now ++ c.args.seal.now in
    let same = unframed c.deref.result.now batch (c.deref.ensures.value ∙ c.in_ok-frame.ensures) in
    let new = c.append_frame.new.self in
    subst (λ (b : List ℕ). OnOk c.append_frame.result (IsTrue (g.D.Disk.is_clean new.disk) → IsAtRest g.D.Disk.seen g.D.Disk.may_leave (g.batches ++ b ∷ []) new)) same c.append_frame.ensures.appended

pub returns-clause-crash : goal.returns-clause-crash
returns-clause-crash g c =
    let batch = c.args.text.now ++ c.args.seal.now in
    let same = unframed c.deref.result.now batch (c.deref.ensures.value ∙ c.in_ok-frame.ensures) in
    let new = c.append_frame.new.self in
    subst (λ (b : List ℕ). IsTrue (g.D.Disk.is_clean new.disk) → LeavesTheseOr g.batches b (g.D.Disk.may_leave new.disk)) same c.append_frame.ensures.crash
