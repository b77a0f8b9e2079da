use Rattle.std.proofs.Common.{arith, true, false, refl, sym, subst, ◌≡◌, ◌∙◌, ap, rules, Equal, List, [], ◌∷◌, Option, Ordering, is_lt, is_gt}
use Rattle.tree_array.proofs.Lemmas.{none-some, same_Some, its_pair, stands_some, count_seen, entries_seen, fields, found_seen, none_seen, named_at, IsTotalOrder, alike_right, without}
use Rattle.tree_array.proofs.Lemmas.{Arrivals, spend, removed, is_empty, filter_same, same_arrays}
use Rattle.tree_array.proofs.array.ArrayOf.remove_if.Goals as goal

module _ {K V : Type 0} {cmp : K → K → Ordering} (o : IsTotalOrder cmp) (key alike : K) (same : cmp key alike ≡ Equal) where
  spend_alike : (arrivals : List (Option (K × V))) → spend cmp arrivals key ≡ spend cmp arrivals alike
  spend_alike [] = refl
  spend_alike (a ∷ arrivals) = grind (arith, spend_alike arrivals, λ (k : K). alike_right o key alike k same)

  without_alike : (pairs : List (K × V)) → without cmp pairs key ≡ without cmp pairs alike
  without_alike pairs =
      rw (filter_same (λ pair. is_lt (cmp pair.0 key)) (λ pair. is_lt (cmp pair.0 alike)) (λ pair. ap is_lt (alike_right o key alike pair.0 same)) pairs, filter_same (λ pair. is_gt (cmp pair.0 key)) (λ pair. is_gt (cmp pair.0 alike)) (λ pair. ap is_gt (alike_right o key alike pair.0 same)) pairs) refl

  pub removed_alike : (array : Arrivals K V) → removed cmp array key ≡ removed cmp array alike
  removed_alike array =
      let left = without_alike array.entries in
      same_arrays _ _ _ _ _ _ (spend_alike array.arrivals) (ap is_empty left) left

pub pair-requires : goal.pair-requires
pair-requires g c = (search rules, stands_some (fields c.order_of.ensures.word c.order_of.ensures.count refl c.self.invariant c.self.view_is).it.table.in_order _ _ c.in-At.ensures.1)

pub condition-requires : goal.condition-requires
condition-requires g c =
    let a = fields c.order_of.ensures.word c.order_of.ensures.count refl c.self.invariant c.self.view_is in
    let place = c.in-At.ensures in
    let same = same_Some _ _ (sym (its_pair g.met.K.Ord.total a.it.table place.1 place.0) ∙ c.pair.ensures) in
    c.requires place.0.pair (found_seen a g.met.K.Ord.total place.0) c.pair.result.1 (ap (λ (e : _ × _). e.1) (sym same))

pub take_at-removal-requires : goal.take_at-removal-requires
take_at-removal-requires g c =
    let a = fields c.order_of.ensures.word c.order_of.ensures.count refl c.self.invariant c.self.view_is in
    (search rules, omega (arith, count_seen a, (named_at c.order_of.result.word c.order_of.result.count c.in-At.place c.in-At.slot c.in-At.ensures.1).0))

pub returns-then-condition-clause-absent : goal.returns-then-condition-clause-absent
returns-then-condition-clause-absent g c none =
    let a = fields c.order_of.ensures.word c.order_of.ensures.count refl c.self.invariant c.self.view_is in
    absurd (none-some c.in-At.ensures.0.pair (sym none ∙ found_seen a g.met.K.Ord.total c.in-At.ensures.0))

pub returns-then-condition-clause-present : goal.returns-then-condition-clause-present
returns-then-condition-clause-present g c =
    let a = fields c.order_of.ensures.word c.order_of.ensures.count refl c.self.invariant c.self.view_is in
    let o = g.met.K.Ord.total in
    let place = c.in-At.ensures in
    let same = same_Some _ _ (sym (its_pair o a.it.table place.1 place.0) ∙ c.pair.ensures) in
    let taken = same_Some _ _ (sym (rw (← entries_seen a) at place.0.there) ∙ c.take_at-removal.ensures.pair) in
    let alike : g.K.Ord.cmp c.args.key.now c.take_at-removal.result.0 ≡ Equal = subst (λ (e : _ × _). g.K.Ord.cmp c.args.key.now e.0 ≡ Equal) taken place.0.same in
    let left = c.take_at-removal.ensures.left ∙ sym (removed_alike o _ _ alike c.args.self.now) in
    rw (found_seen a o place.0) (true, (c.pair.result.1, c.if-condition.ensures, ap (λ (e : _ × _). e.1) (sym same)), (left, c.take_at-removal.ensures.answer))

pub returns-else-condition-clause-present : goal.returns-else-condition-clause-present
returns-else-condition-clause-present g c =
    let a = fields c.order_of.ensures.word c.order_of.ensures.count refl c.self.invariant c.self.view_is in
    let place = c.in-At.ensures in
    let same = same_Some _ _ (sym (its_pair g.met.K.Ord.total a.it.table place.1 place.0) ∙ c.pair.ensures) in
    rw (found_seen a g.met.K.Ord.total place.0) (false, (c.pair.result.1, c.if-condition.ensures, ap (λ (e : _ × _). e.1) (sym same)), (refl, refl))

pub returns-in-Before-clause-present : goal.returns-in-Before-clause-present
returns-in-Before-clause-present g c =
    let a = fields c.order_of.ensures.word c.order_of.ensures.count refl c.self.invariant c.self.view_is in
    rw (none_seen a g.met.K.Ord.total _ _ _ c.in-Before.ensures) tt
