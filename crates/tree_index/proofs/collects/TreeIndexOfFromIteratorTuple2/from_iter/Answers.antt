use Rattle.std.proofs.Common.{List, [], refl, ap, ◌∙◌}
use Rattle.tree_node.proofs.Common.{fits}
use Rattle.tree_index.specs.Collects.{puts}
use Rattle.tree_index.proofs.collects.TreeIndexOfFromIteratorTuple2.from_iter.Goals as goal

pub new-index-requires : goal.new-index-requires
new-index-requires g c = (search fits, (c.requires c.into_iter-pairs.result c.into_iter-pairs.ensures.into_iter_gives).2 [] c.into_iter-pairs.result refl)

pub extend-requires : goal.extend-requires
extend-requires g c =
    let asked = c.requires c.into_iter-pairs.result c.into_iter-pairs.ensures.into_iter_gives in
    (search fits, λ it is. (rw is asked.0, rw is asked.1, λ xs t gave. tt))

pub returns : goal.returns
returns g c =
    let ran = c.in_ok-extend.ensures.ran in
    let put : List (g.row.K.Denot × g.row.V.Denot) → List (g.row.K.Denot × g.row.V.Denot) = λ l. puts g.K.Ord.cmp l ran.1 in
    record { ran = (ran.0, ran.1, rw ran.2 c.into_iter-pairs.ensures.into_iter_gives, (ran.4.1.0, ran.4.1.1, λ _. (ran.4.0, ran.4.1.2)), ran.3 ∙ ap put c.new-index.ensures.pairs) }

pub drop-index-requires : goal.drop-index-requires
drop-index-requires g c = search fits
