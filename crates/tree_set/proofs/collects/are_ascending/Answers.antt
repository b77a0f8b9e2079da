use Rattle.std.proofs.Common.{rules, is_lt}
use Rattle.std.proofs.lemmas.List.Sorted.{answers_always}
use Rattle.tree_set.proofs.Added.{tells_ascending}
use Rattle.tree_set.proofs.collects.are_ascending.Goals as goal

pub returns : goal.returns
returns g c = tells_ascending g.met.K.Ord.total c.args.elements.now c.is_sorted_by.result (c.is_sorted_by.ensures.cases (λ x y. is_lt (g.K.Ord.cmp x y)) (answers_always _ _ _ (λ f a r f' k. search rules)))
