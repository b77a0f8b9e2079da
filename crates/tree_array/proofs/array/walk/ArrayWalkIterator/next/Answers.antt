use Rattle.tree_array.proofs.Lemmas.{◌∙◌, sym, goes_on}
use Rattle.tree_array.proofs.array.walk.ArrayWalkIterator.next.Goals as goal

pub returns-in-On : goal.returns-in-On
returns-in-On g c =
    let way = sym c.way.ensures ∙ c.in-On.is in
    record { steps = rw way c.step_on.ensures; goes = goes_on g.D.Direction.way _ _ _ (rw way c.step_on.ensures) }

pub returns-in-Back : goal.returns-in-Back
returns-in-Back g c =
    let way = sym c.way.ensures ∙ c.in-Back.is in
    record { steps = rw way c.step_back.ensures; goes = goes_on g.D.Direction.way _ _ _ (rw way c.step_back.ensures) }
