use Rattle.std.proofs.Common.{◌≡◌, ◌∷◌, ◌++◌, [], append_assoc, append-nil, ap, refl, sym, ◌∙◌, arith, rules}
use Rattle.tree_model.proofs.Common.{nil_from_length}
use Rattle.tree_store.specs.Changes.{changed, changed_by}
use Rattle.store_restart.proofs.Fronts.{changed_by-push}
use Rattle.store_restart.proofs.batch.change_all.Goals as goal

pub loop-one-init : goal.loop-one-init
loop-one-init g c = record { given = search rules; made = refl; saved = refl }

pub loop-one-preserved : goal.loop-one-preserved
loop-one-preserved g c =
    let was = c.loop-one in
    record {
      given = append_assoc was.yielded (c.in-Some.one ∷ []) _ ∙ ap (λ xs. was.yielded ++ xs) (sym c.in-Some.ensures.steps.0) ∙ was.invariant.given;
      made = c.in_ok-change.ensures.made ∙ ap (λ l. changed g.K.Ord.cmp c.in-Some.one l) was.invariant.made ∙ sym (changed_by-push g.K.Ord.cmp was.yielded c.in-Some.one c.args.store.now.pairs);
      saved = c.change.ensures.saved ∙ was.invariant.saved;
    }

pub returns-clause-made : goal.returns-clause-made
returns-clause-made g c =
    let was = c.loop-one in
    let none : was.one-iterator.rest.items ≡ [] = nil_from_length _ (omega (arith, was.one-iterator.rest.ok, c.in-None.ensures.steps.0)) in
    let all : was.yielded ≡ c.args.changes.items = sym (append-nil was.yielded) ∙ ap (λ xs. was.yielded ++ xs) (sym none) ∙ was.invariant.given in
    was.invariant.made ∙ ap (λ xs. changed_by g.K.Ord.cmp xs c.args.store.now.pairs) all
