use Rattle.tree_cursors.proofs.RangesCommon.{arith, Back, On, common_steps}
use Rattle.tree_cursors.proofs.Ended.{ended_all, inside_from}
use Rattle.tree_cursors.proofs.cursor.run_moves.Goals as goal

pub returns-clause-ended : goal.returns-clause-ended
returns-clause-ended g c =
    let inv = c.loop-step.invariant in
    ended_all g.met.K.Ord.total On c.args.moves.now c.loop-step.step-index _ _ _ inv.answered c.loop-step-test.false inv.ascending inv.inside

pub returns-clause-ended_back : goal.returns-clause-ended_back
returns-clause-ended_back g c =
    let inv = c.loop-step.invariant in
    ended_all g.met.K.Ord.total Back c.args.moves.now c.loop-step.step-index _ _ _ inv.answered c.loop-step-test.false inv.ascending inv.inside

pub loop-step-preserved : goal.loop-step-preserved
loop-step-preserved g c =
    record {
      answered = grind (arith, common_steps);
      ended = grind (arith, common_steps);
      same = grind (arith, common_steps);
      ascending = grind (arith, common_steps);
      first = λ none. absurd (omega (arith, none));
      inside = λ some. inside_from g.met.K.Ord.total c.loop-step.step-index (g.C.Cursor.cursor c.args.cursor.now) (g.C.Cursor.cursor c.loop-step.cursor) c.loop-step.invariant.first c.loop-step.invariant.inside c.make_move.ensures.inside;
      within = grind (arith, common_steps);
      room = grind (arith, common_steps);
    }
