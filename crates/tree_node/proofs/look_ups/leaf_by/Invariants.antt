use Rattle.std.proofs.Common.{◌≡◌, ◌+◌, ◌*◌, ◌≤◌}
use Rattle.tree_node.proofs.DescentWords.{searched}
use Rattle.tree_node.proofs.Ways.{IsDown}
use Rattle.tree_node.proofs.look_ups.leaf_by.Given as goal

abbrev pub invariant-loop-node : goal.invariant-loop-node
invariant-loop-node g l = record {
  same_key : g.A.Asks.key l.asked ≡ g.A.Asks.key l.fn.asked;
  down : IsDown g.K.Ord.cmp l.arenas (g.A.Asks.key l.fn.asked) l.level l.fn.id l.above l.at;
  counted : g.A.Asks.count l.asked + g.row.LEN * l.above ≤ g.A.Asks.count l.fn.asked + g.row.LEN * l.level;
  halved : g.A.Asks.count l.asked + searched g.row.LEN * l.above ≤ g.A.Asks.count l.fn.asked + searched g.row.LEN * l.level;
}

abbrev pub decreases-loop-node : goal.decreases-loop-node
decreases-loop-node g l = l.above
