use Rattle.std.proofs.Common.{◌≡◌, ◌∙◌, length, refl, sym, arith}
use Rattle.std.proofs.lemmas.List.{length_push}
use Rattle.tree_shared.specs.Workers.{IsTask}
use Rattle.tree_shared.proofs.WorkersAnswered.{one_started}
use Rattle.tree_shared.proofs.workers.start_all.Goals as goal

-- one more thread was started, with the task of its number
pub loop-pass-preserved : goal.loop-pass-preserved
loop-pass-preserved g c =
    let before = c.loop-pass.invariant in
    let more = length_push c.loop-pass.yielded c.in-Some.pass in
    let handles = c.loop-pass.handles in
    let last = c.in_ok-spawn_with.field-0 in
    let started = c.in_ok-spawn_with.ensures.ok in
    let number : c.loop-pass.worker ≡ length handles.items = before.0 ∙ sym before.1 ∙ handles.ok.0 in
    let own : IsTask c.args.gate.now (length handles.items) c.args.n last.promise = rw started (c.of.ensures, number, refl) in (
      omega (arith, more, before.0),
      omega (arith, more, before.1, c.in_ok-push.ensures.len),
      rw c.in_ok-push.ensures.items (one_started (λ worker handle. IsTask c.args.gate.now worker c.args.n handle.promise) handles.items last before.2 own),
    )
