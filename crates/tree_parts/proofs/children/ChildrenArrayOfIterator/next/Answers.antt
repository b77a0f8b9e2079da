use Rattle.std.proofs.Common.{rules, sym, ◌∙◌}
use Rattle.tree_parts.proofs.InTurn.{reachable_at, takes_child, with_progress}
use Rattle.tree_parts.proofs.children.ChildrenArrayOfIterator.next.Goals as goal

pub val-requires : goal.val-requires
val-requires g c = (search rules, reachable_at c.self.inside.keyed.now c.self.inside.slots c.self.invariant _ _ c.in-Some.ensures.steps.1.1)

pub returns-in-Some : goal.returns-in-Some
returns-in-Some g c =
    rw (← c.self.view_is) (with_progress (λ children. tt) _ _ _
    (takes_child c.self.inside.keyed.now g.D.Direction.way c.self.inside.slots c.next.new.self c.self.invariant _ _ (sym c.is_some.ensures ∙ c.if-is_some.false) _ c.in-Some.ensures.steps.1 _ c.val.ensures))
