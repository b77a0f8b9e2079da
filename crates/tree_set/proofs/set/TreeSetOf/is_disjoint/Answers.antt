use Rattle.tree_node.proofs.Common.{fits}
use Rattle.std.proofs.Common.{false, ◌∙◌, sym}
use Rattle.tree_set.proofs.Related.{all_had, common_disjoint, disjoint_back, each_had, none_given, disjoint_common}
use Rattle.tree_set.proofs.set.TreeSetOf.is_disjoint.Goals as goal

pub is_few_for-requires : goal.is_few_for-requires
is_few_for-requires g c = search fits

pub all_found-requires : goal.all_found-requires
all_found-requires g c = search fits

pub intersection-requires : goal.intersection-requires
intersection-requires g c = search fits

pub next-requires : goal.next-requires
next-requires g c = search fits

pub returns-then-is_few_for : goal.returns-then-is_few_for
returns-then-is_few_for g c =
    let told = c.all_found.ensures in
    ((λ yes. all_had g.met.K.Ord.total _ false _ (told.0 yes)), (λ all. told.1 (each_had g.met.K.Ord.total _ false _ all)))

pub returns-then-is_few_for-2 : goal.returns-then-is_few_for-2
returns-then-is_few_for-2 g c =
    let told = c.all_found-then-is_few_for-2.ensures in
    ((λ yes. disjoint_back g.met.K.Ord.total _ _ (all_had g.met.K.Ord.total _ false _ (told.0 yes))), (λ all. told.1 (each_had g.met.K.Ord.total _ false _ (disjoint_back g.met.K.Ord.total _ _ all))))

pub returns : goal.returns
returns g c =
    let told = rw c.intersection.ensures.common at (none_given _ _ c.next.result c.is_none.result c.next.ensures.steps c.is_none.ensures) in
    ((λ yes. common_disjoint g.met.K.Ord.total _ _ (told.0 yes)), (λ all. told.1 (disjoint_common g.met.K.Ord.total _ _ all)))
