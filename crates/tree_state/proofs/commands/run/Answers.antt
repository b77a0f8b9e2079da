use Rattle.std.proofs.Common.{◌≡◌, List, [], ◌∷◌, ◌++◌, rules, refl, sym, ◌∙◌, append-nil, append_assoc}
use Rattle.tree_model.proofs.Common.{nil_from_length}
use Rattle.std.specs.Vec.Iter.{into_iter_items}
use Rattle.tree_state.proofs.Climbs.{climbs}
use Rattle.tree_state.proofs.Served.{none_served, served_more}
use Rattle.tree_state.proofs.commands.run.Goals as goal

one_more : {X : Type 0} (xs : List X) (x : X) (ys : List X) → (xs ++ x ∷ []) ++ ys ≡ xs ++ x ∷ ys
one_more xs x ys = simp append_assoc

pub loop-command-init : goal.loop-command-init
loop-command-init g c =
    let gives = c.into_iter-command-iterator.ensures.into_iter_gives in
    record {
      can_next = tt;
      is_finite = tt;
      completes = λ replies new runs. rw c.in_ok-replies.ensures.items (rw gives.0 at runs);
      leads = λ replies new leads. rw c.in_ok-replies.ensures.items (rw gives.0 at leads);
      serves = λ replies served. rw c.in_ok-replies.ensures.items (rw gives.0 at served);
      counted = search rules;
      room = search rules;
    }

-- a command is answered before the others
pub loop-command-preserved : goal.loop-command-preserved
loop-command-preserved g c =
    let steps = c.in-Some.ensures.steps in
    let kept = c.loop-command.invariant in
    let pushed : c.push.new.self.items ≡ c.loop-command.replies.items ++ c.answer.result ∷ [] = rw c.unwrap.ensures at c.push.ensures.items in
    record {
      can_next = tt;
      is_finite = tt;
      completes = λ replies new runs. rw (pushed, one_more c.loop-command.replies.items c.answer.result replies) (kept.completes (c.answer.result ∷ replies) new (rw steps.0 (c.answer.new.index.pairs, c.answer.ensures.step, runs)));
      leads = λ replies new leads.
          rw (pushed, one_more c.loop-command.replies.items c.answer.result replies)
          (kept.leads (c.answer.result ∷ replies) new (rw steps.0 (c.answer.new.index, (c.answer.ensures.step, c.answer.ensures.packed), leads)));
      serves = λ replies served.
          rw (pushed, one_more c.loop-command.replies.items c.answer.result replies)
          (kept.serves (c.answer.result ∷ replies) (rw steps.0 (served_more c.loop-command.index.spare c.answer.new.index.spare c.in-Some.command c.answer.result (into_iter_items c.next.new.self) replies c.answer.ensures.spare served)));
      counted = search rules;
      room = search rules;
    }

-- no command is left, so the replies so far are those to all
pub returns-clause-runs : goal.returns-clause-runs
returns-clause-runs g c =
    let none : into_iter_items c.loop-command.command-iterator ≡ [] = nil_from_length _ (sym c.loop-command.invariant.counted ∙ c.in-None.ensures.steps.0) in
    rw append-nil at (c.loop-command.invariant.completes [] c.loop-command.index.pairs (rw none refl))

pub returns-clause-spare : goal.returns-clause-spare
returns-clause-spare g c =
    let none : into_iter_items c.loop-command.command-iterator ≡ [] = nil_from_length _ (sym c.loop-command.invariant.counted ∙ c.in-None.ensures.steps.0) in
    rw append-nil at (c.loop-command.invariant.serves [] (rw none (none_served _ _ c.loop-command.index.spare)))

pub returns-clause-depth : goal.returns-clause-depth
returns-clause-depth g c pairs ascending inserts taken none =
    let done : into_iter_items c.loop-command.command-iterator ≡ [] = nil_from_length _ (sym c.loop-command.invariant.counted ∙ c.in-None.ensures.steps.0) in
    let leads = rw append-nil at (c.loop-command.invariant.leads [] c.loop-command.index (rw done refl)) in
    climbs g.met.K.Ord.total g.V.SameClone.seen g.row.LEN pairs c.args.index.now c.loop-command.index c.loop-command.replies.items ascending (rw inserts at leads) taken none
