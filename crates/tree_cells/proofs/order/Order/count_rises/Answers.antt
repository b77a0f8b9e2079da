use Rattle.std.proofs.Common.{◌≡◌, ◌+◌, ◌≤◌, ◌∷◌, drop, get_or, sym, ◌∙◌, ap, arith}
use Rattle.tree_cells.proofs.OrderCommon.{at_drop_all, at_drop_more, named, ordinal_in, picked, rises_from, rises_in, all_rise, rises_down, rises_up, get_or-picked, length-picked}
use Rattle.tree_cells.proofs.order.Order.count_rises.Goals.{then-previous-ordinal, else-previous-ordinal, then-ordinal-gt0, else-ordinal-gt0}
use Rattle.tree_cells.proofs.order.Order.count_rises.Goals as goal

pub returns-then-is_in_turn-clause-rises : goal.returns-then-is_in_turn-clause-rises
returns-then-is_in_turn-clause-rises g c =
    sym (all_rise (named c.args.self.word) c.args.made (omega (arith, c.if-self-gt0.true, c.if-self-made.true)) (c.is_in_turn.ensures c.if-is_in_turn.true)) ∙ ap (λ n. rises_in (ordinal_in (named c.args.self.word) n) c.args.made) (sym c.if-self-made.true)

pub loop-slot-preserved : goal.loop-slot-preserved
loop-slot-preserved g c =
    let slot = c.loop-slot.slot in
    let ordinals = picked (ordinal_in (named c.args.self.word) c.args.self.count) c.args.made in
    let rest = drop (slot + 1) ordinals in
    let n = get_or c.ordinals-ordinals.result slot 0 in
    let same : get_or ordinals slot 0 ≡ n = get_or-picked _ c.args.made slot 0 c.loop-slot-test.true ∙ sym (c.ordinals-ordinals.ensures.ordinals slot (omega (arith, c.loop-slot-test.true, c.requires.made))) in
    let step = at_drop_more (rises_from c.loop-slot.previous) ordinals slot 0 (omega (arith, length-picked (ordinal_in (named c.args.self.word) c.args.self.count) c.args.made, c.loop-slot-test.true)) ∙ ap (λ n. rises_from c.loop-slot.previous (n ∷ rest)) same in
    let few : c.loop-slot.rises ≤ slot = c.loop-slot.invariant.few in
    let sum : c.loop-slot.rises + rises_from c.loop-slot.previous (n ∷ rest) ≡ rises_in (ordinal_in (named c.args.self.word) c.args.self.count) c.args.made = omega (arith, c.loop-slot.invariant.rises, step) in
    elim c.if-previous-ordinal.branch [
      | then-previous-ordinal w ↦ elim c.if-ordinal-gt0.branch [
        | then-ordinal-gt0 v ↦ rw (w.rises-is, v.previous-is) record { rises = omega (arith, rises_up c.loop-slot.previous n rest v.if-ordinal-gt0.true w.if-previous-ordinal.true); few = omega arith }
        | else-ordinal-gt0 v ↦ absurd (omega (arith, w.if-previous-ordinal.true, v.if-ordinal-gt0.false))
      ]
      | else-previous-ordinal w ↦ elim c.if-ordinal-gt0.branch [
        | then-ordinal-gt0 v ↦ rw (w.rises-is, v.previous-is) record { rises = omega (arith, rises_down c.loop-slot.previous n rest v.if-ordinal-gt0.true w.if-previous-ordinal.false); few = omega arith }
        | else-ordinal-gt0 v ↦
            let zero : n ≡ 0 = omega (arith, v.if-ordinal-gt0.false) in
            rw (w.rises-is, v.previous-is) record { rises = omega (arith, ap (λ n. rises_from c.loop-slot.previous (n ∷ rest)) zero); few = omega arith }
      ]
    ]

pub returns-clause-rises : goal.returns-clause-rises
returns-clause-rises g c =
    let ordinals = picked (ordinal_in (named c.args.self.word) c.args.self.count) c.args.made in
    omega (arith, c.loop-slot.invariant.rises, at_drop_all (rises_from c.loop-slot.previous) ordinals c.loop-slot.slot (omega (arith, length-picked (ordinal_in (named c.args.self.word) c.args.self.count) c.args.made, c.loop-slot-test.false)))
