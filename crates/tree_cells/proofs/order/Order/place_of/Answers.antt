use Rattle.tree_cells.proofs.OrderCommon.{arith, named_at}
use Rattle.tree_cells.proofs.order.Order.place_of.Goals as goal

pub unreachable-requires : goal.unreachable-requires
unreachable-requires g c = let t = named_at c.args.self.word c.args.self.count c.requires.0 c.args.slot c.requires.1 in c.loop-place.invariant c.requires.0 (omega (arith, t.0)) t.1
