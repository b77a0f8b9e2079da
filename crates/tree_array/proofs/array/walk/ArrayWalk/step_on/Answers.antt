use Rattle.tree_array.proofs.Lemmas.{◌≡◌, ◌+◌, ◌-◌, ap, ◌∙◌, arith, named, stepped_on}
use Rattle.tree_array.proofs.array.walk.ArrayWalk.step_on.Goals as goal

pub returns-then-self : goal.returns-then-self
returns-then-self g c =
    let same : c.self.inside.ahead + 1 - 1 ≡ c.self.inside.ahead = omega arith in
    rw (← c.self.view_is) (stepped_on c.self.inside.order c.self.inside.count c.self.inside.ahead c.slot_at.result c.if-self.true (c.slot_at.ensures ∙ ap (named c.self.inside.order) same))
