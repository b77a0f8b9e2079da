use Rattle.std.proofs.Common.{◌≡◌, ◌+◌, suc, inl, inr, refl, sym, ◌∙◌, ap, arith, length-set, get_or-set_same, get_or-set_other}
use Rattle.tree_cells.proofs.OrderCommon.{cases_eq, named, ordinal_in, ordinal_before, ordinal_here, named_later}
use Rattle.tree_cells.proofs.order.Order.ordinals.Goals as goal

pub bounds-ordinals-slot_at : goal.bounds-ordinals-slot_at
bounds-ordinals-slot_at g c =
    let same : c.loop-place.place + 0 ≡ c.loop-place.place = omega arith in
    let is : c.slot_at.result ≡ named c.args.self.word c.loop-place.place = c.slot_at.ensures ∙ c.loop-place.invariant.rest 0 ∙ ap (named c.args.self.word) same in
    rw is (c.requires.within c.loop-place.place c.loop-place-test.true)

pub loop-place-preserved : goal.loop-place-preserved
loop-place-preserved g c =
    let place = c.loop-place.place in
    let name = named c.args.self.word in
    let same : place + 0 ≡ place = omega arith in
    let is : c.slot_at.result ≡ name place = c.slot_at.ensures ∙ c.loop-place.invariant.rest 0 ∙ ap name same in
    let more : place + 1 ≡ suc place = omega arith in
    record {
      rest = λ i.
          let next : place + (1 + i) ≡ place + 1 + i = omega arith in
          named_later c.loop-place.rest 1 i ∙ c.loop-place.invariant.rest (1 + i) ∙ ap name next;
      whole = length-set c.loop-place.ordinals c.slot_at.result (place + 1) ∙ c.loop-place.invariant.whole;
      ordinals = λ p lt. elim (cases_eq p (name place)) [
        | inl here ↦ rw (is, here) (get_or-set_same c.loop-place.ordinals (name place) (place + 1) 0 (omega (arith, lt, here, c.loop-place.invariant.whole)) ∙ sym (ordinal_here name place (name place) refl) ∙ ap (λ n. ordinal_in name n (name place)) (sym more))
        | inr other ↦ rw is (get_or-set_other c.loop-place.ordinals (name place) p (place + 1) 0 other ∙ c.loop-place.invariant.ordinals p lt ∙ sym (ordinal_before name place p (λ e. other (sym e))) ∙ ap (λ n. ordinal_in name n p) (sym more))
      ];
    }
