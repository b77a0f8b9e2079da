use Rattle.tree_cells.proofs.OrderCommon.{arith, rules, turn_order, live, length-names, names_small}
use Rattle.tree_cells.proofs.order.Order.in_turn.Goals as goal

pub invariant_of-result-2 : goal.invariant_of-result-2
invariant_of-result-2 g c =
    let word = c.extended-word.ensures _ (names_small _ c.args.count) (length-names _ c.args.count) c.first.ensures in
    record { whole = (turn_order c.requires.len c.requires.few (omega (arith, c.if-count-eq0.false)) word).1 }

pub returns : goal.returns
returns g c =
    let word = c.extended-word.ensures _ (names_small _ c.args.count) (length-names _ c.args.count) c.first.ensures in
    let order = turn_order c.requires.len c.requires.few (omega (arith, c.if-count-eq0.false)) word in
    record { count = search rules; names = order.0; live = live order.1 (omega (arith, c.if-count-eq0.false)) }
