use Rattle.tree_node.proofs.Common.{fits}
use Rattle.std.proofs.Common.{true, ◌∙◌, sym}
use Rattle.tree_set.proofs.Related.{all_had, alone_subset, each_had, none_given, subset_alone}
use Rattle.tree_set.proofs.set.TreeSetOf.is_subset.Goals as goal

pub is_few_for-requires : goal.is_few_for-requires
is_few_for-requires g c = search fits

pub all_found-requires : goal.all_found-requires
all_found-requires g c = search fits

pub difference-requires : goal.difference-requires
difference-requires g c = search fits

pub next-requires : goal.next-requires
next-requires g c = search fits

pub returns-then-is_few_for : goal.returns-then-is_few_for
returns-then-is_few_for g c =
    let told = c.all_found.ensures in
    ((λ yes. all_had g.met.K.Ord.total _ true _ (told.0 yes)), (λ all. told.1 (each_had g.met.K.Ord.total _ true _ all)))

pub returns : goal.returns
returns g c =
    let told = rw c.difference.ensures.alone at (none_given _ _ c.next.result c.is_none.result c.next.ensures.steps c.is_none.ensures) in
    ((λ yes. alone_subset g.met.K.Ord.total _ _ (told.0 yes)), (λ all. told.1 (subset_alone g.met.K.Ord.total _ _ all)))
