use Rattle.std.proofs.Common.{◌≡◌, ◌≤◌, ℕ, List, sym, ◌∙◌, ap, subst, arith}
use Rattle.std.specs.Prelude.{Err}
use Rattle.std.proofs.lemmas.Bool.Decides.{nat_tests}
use Rattle.store_frames.specs.Frame.{Scanned, batches_of}
use Rattle.store_log.specs.Rest.{IsAtRest, LeavesThese}
use Rattle.store_log.specs.Log.{Finds, HasTexts, IsBlank, end_of}
use Rattle.store_log.proofs.Examined.{end_found}
use Rattle.store_log.proofs.Texts.{kept_leaves, leaves_texts, opened_has, opened_kept}
use Rattle.store_log.proofs.log.Log.open.Goals as goal

pub returns-in-Err-clause-crash : goal.returns-in-Err-clause-crash
returns-in-Err-clause-crash g c clean head texts h file left = subst (HasTexts head texts) (sym (c.requires.durable file (c.read_all.ensures.crash file left))) h

pub returns-in-Err-examine-clause-sound : goal.returns-in-Err-examine-clause-sound
returns-in-Err-examine-clause-sound g c clean refusal head texts h kinds reaches =
    let are : g.D.Disk.seen c.args.disk ≡ c.deref.result.now = sym (c.deref.ensures.value ∙ c.in-Ok.ensures.bytes clean) in
    c.in-Err-examine.ensures.refused head texts (subst (HasTexts head texts) are h) kinds (subst (λ (f : List ℕ). c.args.mark ≤ end_of f) are reaches)

pub returns-in-Err-examine-clause-untouched : goal.returns-in-Err-examine-clause-untouched
returns-in-Err-examine-clause-untouched g c refusal = record { same = c.read_all.ensures.seen; no_more = c.read_all.ensures.crash }

pub returns-in-Err-examine-clause-crash : goal.returns-in-Err-examine-clause-crash
returns-in-Err-examine-clause-crash g c clean head texts h file left = subst (HasTexts head texts) (sym (c.requires.durable file (c.read_all.ensures.crash file left))) h

pub returns-in-Err-examine-clause-blank : goal.returns-in-Err-examine-clause-blank
returns-in-Err-examine-clause-blank g c clean is = subst IsBlank (c.deref.ensures.value ∙ c.in-Ok.ensures.bytes clean) (c.in-Err-examine.ensures.blank (ap (λ x. Err x) is))

pub returns-in-Err-examine-clause-other : goal.returns-in-Err-examine-clause-other
returns-in-Err-examine-clause-other g c clean is blank = c.in-Err-examine.ensures.other (ap (λ x. Err x) is) (subst IsBlank (sym (c.deref.ensures.value ∙ c.in-Ok.ensures.bytes clean)) blank)

pub settled-requires : goal.settled-requires
settled-requires g c = record {
  usable = c.read_all.ensures.usable;
  durable = λ file left. c.requires.durable file (c.read_all.ensures.crash file left) ∙ sym c.read_all.ensures.seen;
  read = λ clean. c.deref-2.ensures.value ∙ c.in-Ok.ensures.bytes clean ∙ sym c.read_all.ensures.seen;
  scanned = subst (λ (l : List ℕ). Scanned l c.in-Ok-examine.found.1) (c.deref.ensures.value ∙ sym c.deref-2.ensures.value) c.in-Ok-examine.ensures.found.scanned;
  within = omega (arith, c.in-Ok-examine.ensures.within, c.deref.ensures.len, c.deref-2.ensures.len);
}

pub invariant_of-result : goal.invariant_of-result
invariant_of-result g c =
    let seen = g.D.Disk.seen in
    let may_leave = g.D.Disk.may_leave in
    let file = c.in-Ok-settled.file in
    record {
      usable = λ some. c.in-Ok-settled.ensures.usable;
      kept = λ some clean.
          let are : c.deref.result.now ≡ seen c.args.disk = c.deref.ensures.value ∙ c.in-Ok.ensures.bytes (c.in-Ok-settled.ensures.clean clean) in
          let found = subst (λ (f : List ℕ). Finds f c.in-Ok-examine.found.0 c.in-Ok-examine.found.1) are c.in-Ok-examine.ensures.found in
          let rest = subst (λ (s : List ℕ). IsAtRest seen may_leave (batches_of s) file) c.read_all.ensures.seen (c.in-Ok-settled.ensures.rest clean) in
          opened_kept seen may_leave c.in-Ok-examine.found.0 c.in-Ok-examine.found.1 (seen c.args.disk) found file rest;
    }

pub returns-in-Ok-settled-clause-opened : goal.returns-in-Ok-settled-clause-opened
returns-in-Ok-settled-clause-opened g c clean =
    let seen = g.D.Disk.seen in
    let may_leave = g.D.Disk.may_leave in
    let file = c.in-Ok-settled.file in
    let are : c.deref.result.now ≡ seen c.args.disk = c.deref.ensures.value ∙ c.in-Ok.ensures.bytes (c.in-Ok-settled.ensures.clean clean) in
    let found = subst (λ (f : List ℕ). Finds f c.in-Ok-examine.found.0 c.in-Ok-examine.found.1) are c.in-Ok-examine.ensures.found in
    let rest = subst (λ (s : List ℕ). IsAtRest seen may_leave (batches_of s) file) c.read_all.ensures.seen (c.in-Ok-settled.ensures.rest clean) in
    opened_has seen may_leave c.in-Ok-examine.found.0 c.in-Ok-examine.found.1 (seen c.args.disk) found file rest

pub returns-in-Ok-settled-clause-kept : goal.returns-in-Ok-settled-clause-kept
returns-in-Ok-settled-clause-kept g c clean =
    let seen = g.D.Disk.seen in
    let may_leave = g.D.Disk.may_leave in
    let file = c.in-Ok-settled.file in
    let are : c.deref.result.now ≡ seen c.args.disk = c.deref.ensures.value ∙ c.in-Ok.ensures.bytes (c.in-Ok-settled.ensures.clean clean) in
    let found = subst (λ (f : List ℕ). Finds f c.in-Ok-examine.found.0 c.in-Ok-examine.found.1) are c.in-Ok-examine.ensures.found in
    let rest = subst (λ (s : List ℕ). IsAtRest seen may_leave (batches_of s) file) c.read_all.ensures.seen (c.in-Ok-settled.ensures.rest clean) in
    kept_leaves seen may_leave c.in-Ok-examine.found.0 file (opened_kept seen may_leave c.in-Ok-examine.found.0 c.in-Ok-examine.found.1 (seen c.args.disk) found file rest)

pub returns-in-Ok-settled-clause-reached : goal.returns-in-Ok-settled-clause-reached
returns-in-Ok-settled-clause-reached g c clean =
    let are : c.deref.result.now ≡ g.D.Disk.seen c.args.disk = c.deref.ensures.value ∙ c.in-Ok.ensures.bytes (c.in-Ok-settled.ensures.clean clean) in
    let reached : c.args.mark ≤ end_of c.deref.result.now = omega (arith, c.in-Ok-examine.ensures.reached, end_found c.deref.result.now c.in-Ok-examine.found.1 c.in-Ok-examine.ensures.found.scanned) in
    subst (λ (f : List ℕ). c.args.mark ≤ end_of f) are reached

pub returns-in-Ok-settled-clause-runs : goal.returns-in-Ok-settled-clause-runs
returns-in-Ok-settled-clause-runs g c = grind (arith, nat_tests, c.in-Ok-settled.ensures.room)

pub returns-in-Err-settled-clause-crash : goal.returns-in-Err-settled-clause-crash
returns-in-Err-settled-clause-crash g c clean head texts h =
    let leaves = subst (λ (s : List ℕ). LeavesThese (batches_of s) (g.D.Disk.may_leave c.in-Err-settled.disk)) c.read_all.ensures.seen (c.in-Err-settled.ensures.crash_err clean) in
    leaves_texts (g.D.Disk.seen c.args.disk) (g.D.Disk.may_leave c.in-Err-settled.disk) head texts h leaves

pub returns-in-Ok-settled-clause-clean : goal.returns-in-Ok-settled-clause-clean
returns-in-Ok-settled-clause-clean g c clean = c.read_all.ensures.clean (c.in-Ok-settled.ensures.clean clean)

pub returns-in-Err-settled-clause-clean_err : goal.returns-in-Err-settled-clause-clean_err
returns-in-Err-settled-clause-clean_err g c clean = c.read_all.ensures.clean (c.in-Err-settled.ensures.clean_err clean)
