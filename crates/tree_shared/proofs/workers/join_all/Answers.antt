use Rattle.std.proofs.Common.{◌∙◌, refl, sym, ap, subst, arith, length}
use Rattle.std.proofs.lemmas.Iterator.Adapters.{YieldsList-from_vec}
use Rattle.std.proofs.lemmas.Iterator.Consumers.{YieldsList-turn, YieldsList-end}
use Rattle.std.proofs.lemmas.List.{length_push, map-id}
use Rattle.std.proofs.lemmas.List.Elements.{All-push}
use Rattle.std.proofs.lemmas.Option.{slice_get_read}
use Rattle.tree_shared.specs.Workers.{AreAnswered, OnlyInserts}
use Rattle.tree_shared.proofs.WorkersAnswered.{ended_so, one_more}
use Rattle.tree_shared.proofs.workers.join_all.Goals as goal

-- one more thread was joined
pub loop-handle-preserved : goal.loop-handle-preserved
loop-handle-preserved g c =
    let gives = c.into_iter-handle-iterator.ensures.into_iter_gives in
    let turn = YieldsList-turn (YieldsList-from_vec {s = c.into_iter-handle-iterator.result} c.args.handles.items gives.0 (gives.1 ∙ c.args.handles.ok.0)) c.loop-handle.yielded c.loop-handle.handle-iterator c.loop-handle.yielded_by c.next.result c.next.new.self c.in-Some.handle c.in-Some.is c.next.ensures.steps in
    let more = length_push c.loop-handle.yielded c.in-Some.handle in
    let before = c.loop-handle.invariant in (
      omega (arith, more, before.0, c.in_ok-push.ensures.len),
      λ gate n promised.
          let is = promised (length c.loop-handle.yielded) c.in-Some.handle (slice_get_read c.args.handles.items _ _ _ refl turn.0 turn.1) in
          let ended = ended_so g.G.Gate.answers gate (length c.loop-handle.yielded) n c.in-Some.handle.promise c.join-ended.result.pass c.join-ended.result.stopped is c.join-ended.ensures in
          let kept = before.1 gate n promised in (
            rw c.in_ok-push.ensures.items (All-push (OnlyInserts n) c.loop-handle.back.items c.join-ended.result.pass kept.0 ended.0),
            rw more (one_more (g.G.Gate.answers gate) (length c.loop-handle.yielded) n c.loop-handle.stopped c.join-ended.result.stopped kept.1 ended.1),
          ),
    )

-- all threads were
pub returns-clause-kept : goal.returns-clause-kept
returns-clause-kept g c =
    let gives = c.into_iter-handle-iterator.ensures.into_iter_gives in
    let end = YieldsList-end (YieldsList-from_vec {s = c.into_iter-handle-iterator.result} c.args.handles.items gives.0 (gives.1 ∙ c.args.handles.ok.0)) c.loop-handle.yielded c.loop-handle.handle-iterator c.loop-handle.yielded_by c.next.result c.next.new.self c.in-None.is c.next.ensures.steps in
    let whole = ap length (sym (map-id c.loop-handle.yielded) ∙ end.0) ∙ sym c.args.handles.ok.0 in
    λ gate n promised.
    let kept = c.loop-handle.invariant.1 gate n promised in (
      kept.0,
      subst (λ joined. AreAnswered (g.G.Gate.answers gate) joined n c.loop-handle.stopped) whole kept.1,
    )
