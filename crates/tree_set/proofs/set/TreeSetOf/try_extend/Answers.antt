use Rattle.tree_node.proofs.Common.{fits}
use Rattle.std.proofs.Common.{List, refl, sym, ap, ◌∙◌}
use Rattle.std.proofs.iter.Next.{Yields-more}
use Rattle.tree_index.proofs.Puts.{same_error}
use Rattle.tree_set.specs.Collects.{AddsElements, added}
use Rattle.tree_set.proofs.Added.{added_push, adds}
use Rattle.tree_set.proofs.set.TreeSetOf.try_extend.Goals as goal

pub insert-requires : goal.insert-requires
insert-requires g c = search fits

pub loop-element-init : goal.loop-element-init
loop-element-init g c = refl

pub loop-element-init-derived : goal.loop-element-init-derived
loop-element-init-derived g c = c.requires c.into_iter-elements.result c.into_iter-elements.ensures.into_iter_gives

pub loop-element-preserved : goal.loop-element-preserved
loop-element-preserved g c =
    adds g.K.Ord.cmp _ c.in-Some.element _ _ c.in_ok-insert.ensures
    ∙ ap (λ (l : List g.row.K.Denot). added g.K.Ord.cmp l c.in-Some.element) c.loop-element.invariant
    ∙ sym (added_push g.K.Ord.cmp c.args.self.now c.loop-element.yielded c.in-Some.element)

pub returns-in_err-insert : goal.returns-in_err-insert
returns-in_err-insert g c =
    let refused = c.in_err-insert.ensures in
    same_error (AddsElements g.K.Ord.cmp g.U.IntoIterator.into_iter_gives g.U.IntoIter.Iterator.next_gives c.args.elements c.args.self.now c.insert.new.self) c.from_residual.result c.in_err-insert.field-0.0 c.from_residual.ensures.1 (record {
      from = c.into_iter-elements.result;
      became = c.into_iter-elements.ensures.into_iter_gives;
      elements = c.loop-element.yielded;
      all = rw refused.1 (c.next.new.self, Yields-more g.U.IntoIter.Iterator.next_gives c.into_iter-elements.result c.loop-element.yielded c.loop-element.elements c.in-Some.element c.next.new.self c.loop-element.yielded_by c.in-Some.ensures.steps);
      added = refused.2 ∙ c.loop-element.invariant;
    })

pub returns : goal.returns
returns g c = record {
  from = c.into_iter-elements.result;
  became = c.into_iter-elements.ensures.into_iter_gives;
  elements = c.loop-element.yielded;
  all = (_, (_, c.loop-element.yielded_by, c.in_default.ensures.steps));
  added = c.loop-element.invariant;
}
