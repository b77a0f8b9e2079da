use Rattle.std.proofs.Common.{◌≡◌, true, Some, is_some, Option, None, refl, sym, ap, ◌∙◌, option_map}
use Rattle.tree_model.proofs.Histories.{seen_value}
use Rattle.tree_state.proofs.commands.answer.Goals as goal

-- where the value of a pair is found, there is a pair
some_pair : {K V : Type 0} (value : V) (found : Option (K × V)) → Some value ≡ option_map (λ pair. pair.1) found → is_some found ≡ true
some_pair value None same = absurd (cc)
some_pair value (Some pair) same = refl

pub returns-in-Remove-clause-step : goal.returns-in-Remove-clause-step
returns-in-Remove-clause-step g c = rw c.in-Remove.is (c.remove_sync.ensures.answer, c.remove_sync.ensures.left)

pub returns-in-None-clause-step : goal.returns-in-None-clause-step
returns-in-None-clause-step g c = rw c.in-Peek.is (ap (option_map g.V.SameClone.seen) c.in-None.ensures.found ∙ seen_value g.V.SameClone.seen _, refl)

pub returns-in-Ok-clause-step : goal.returns-in-Ok-clause-step
returns-in-Ok-clause-step g c =
    let same : g.V.SameClone.seen c.in-Some.value.now ≡ g.V.SameClone.seen c.in-Ok.value = g.met.V.SameClone.clone_seen _ _ c.in-Ok.ensures.cases in
    rw c.in-Peek.is (ap Some (sym same) ∙ ap (option_map g.V.SameClone.seen) c.in-Some.ensures.found ∙ seen_value g.V.SameClone.seen _, refl)

pub returns-clause-step : goal.returns-clause-step
returns-clause-step g c = rw c.in-Peek.is (some_pair _ _ c.in-Some.ensures.found, refl)
