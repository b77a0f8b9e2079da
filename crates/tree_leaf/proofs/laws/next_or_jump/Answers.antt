use Rattle.tree_leaf.proofs.Rests.{next_then_jump, took}
use Rattle.tree_leaf.proofs.laws.next_or_jump.Goals as goal

pub returns-in-None : goal.returns-in-None
returns-in-None g c = next_then_jump _ c.args.walk.now c.next.new.self _ _ c.in-None.ensures.steps c.jump.ensures

pub returns-in_default : goal.returns-in_default
returns-in_default g c = took _ c.args.walk.now _ _ c.in_default.not-None c.next.ensures.steps
