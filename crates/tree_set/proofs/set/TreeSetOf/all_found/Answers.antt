use Rattle.std.proofs.Common.{refl, sym, ◌∙◌}
use Rattle.tree_node.proofs.Common.{fits}
use Rattle.tree_set.proofs.Related.{other_answer, same_answer}
use Rattle.tree_set.proofs.set.TreeSetOf.all_found.Goals as goal

pub into_iter-element-iterator-requires : goal.into_iter-element-iterator-requires
into_iter-element-iterator-requires g c = search fits

pub next-requires : goal.next-requires
next-requires g c = search fits

pub loop-element-preserved : goal.loop-element-preserved
loop-element-preserved g c = record {
  whole = λ rest. c.loop-element.invariant.whole (rw c.in-Some.ensures.steps (sym c.contains.ensures ∙ same_answer _ _ c.if-contains-found.false, rest));
  rest = λ all. let left = rw c.in-Some.ensures.steps at (c.loop-element.invariant.rest all) in left.1;
}

pub returns-then-contains-found : goal.returns-then-contains-found
returns-then-contains-found g c = (
  (λ yes. absurd (cc)),
  (λ all. let left = rw c.in-Some.ensures.steps at (c.loop-element.invariant.rest all) in absurd (other_answer _ _ c.if-contains-found.true (c.contains.ensures ∙ left.0))),
)

pub returns : goal.returns
returns g c = ((λ yes. c.loop-element.invariant.whole (rw c.in-None.ensures.steps.0 tt)), (λ all. refl))
