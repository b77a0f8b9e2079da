use Rattle.std.proofs.Common.{List, [], refl, ap, ◌∙◌}
use Rattle.tree_node.proofs.Common.{fits}
use Rattle.tree_set.specs.Collects.{added_each}
use Rattle.tree_set.proofs.collects.TreeSetOfFromIterator.from_iter.Goals as goal

pub new-set-requires : goal.new-set-requires
new-set-requires g c = (search fits, (c.requires c.into_iter-elements.result c.into_iter-elements.ensures.into_iter_gives).2 [] c.into_iter-elements.result refl)

pub extend-requires : goal.extend-requires
extend-requires g c =
    let asked = c.requires c.into_iter-elements.result c.into_iter-elements.ensures.into_iter_gives in
    (search fits, λ it is. (rw is asked.0, rw is asked.1, λ xs t gave. tt))

pub returns : goal.returns
returns g c =
    let ran = c.in_ok-extend.ensures.ran in
    let added : List g.row.K.Denot → List g.row.K.Denot = λ l. added_each g.K.Ord.cmp l ran.1 in
    record { ran = (ran.0, ran.1, rw ran.2 c.into_iter-elements.ensures.into_iter_gives, (ran.4.1.0, ran.4.1.1, λ _. (ran.4.0, ran.4.1.2)), ran.3 ∙ ap added c.new-set.ensures) }

pub drop-set-requires : goal.drop-set-requires
drop-set-requires g c = search fits
