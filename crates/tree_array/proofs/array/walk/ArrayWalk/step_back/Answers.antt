use Rattle.tree_array.proofs.Lemmas.{◌≡◌, ◌≤◌, length, arith, names, places_behind, before, behind_few, stepped_back}
use Rattle.tree_array.proofs.array.walk.ArrayWalk.step_back.Goals as goal

pub returns-then-behind-gt0 : goal.returns-then-behind-gt0
returns-then-behind-gt0 g c =
    let is : c.places_behind-behind.result ≡ places_behind (length (names c.self.inside.order c.self.inside.count)) (before c.self.inside.ahead) = rw (← c.self.view_is) at c.places_behind-behind.ensures in
    let few : c.places_behind-behind.result ≤ c.self.inside.count = omega (arith, is, behind_few c.self.inside.order c.self.inside.count c.self.inside.ahead c.self.invariant.1) in
    rw (← c.self.view_is) (stepped_back c.self.inside.order c.self.inside.count c.self.inside.ahead c.places_behind-behind.result c.slot_at.result is c.if-behind-gt0.true few c.slot_at.ensures)
