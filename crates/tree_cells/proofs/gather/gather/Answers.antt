use Rattle.tree_cells.proofs.Lemmas.{◌≡◌, ◌≢◌, ℕ, ◌+◌, ◌-◌, ◌<◌, ◌≤◌, Some, None, length, refl, ◌∙◌, ap, arith, named, named_later, zipped, left_more, none_in_turn, none_left, stands_still}
use Rattle.tree_cells.proofs.Lemmas.{turn_more, steps, has_both, has_none, is_pair, length-zipped, pair_set, paired_at, rows_alike}
use Rattle.tree_cells.proofs.gather.gather.Goals as goal

-- the slot that the loop is at is that of the next place
at_place : (rest order place : ℕ) {slot : ℕ} → slot ≡ named rest 0 → ((i : ℕ) → named rest i ≡ named order (place + i)) → slot ≡ named order place
at_place rest order place is later = let same : place + 0 ≡ place = omega arith in is ∙ later 0 ∙ ap (named order) same

pub loop-place-init : goal.loop-place-init
loop-place-init g c =
    let to = rows_alike c.args.to_keys.now.whole c.args.to_vals.now.whole (record { alike = λ p. rw (c.requires.no_keys p, c.requires.no_vals p) refl }) in
    record {
      rest = λ i. named_later c.args.order c.args.from i;
      rows = rows_alike c.args.keys.now.whole c.args.vals.now.whole c.requires.alike;
      to = to;
      turn = none_in_turn _ _ c.args.order c.args.from (λ p. paired_at to p ∙ rw (c.requires.no_keys p) refl);
      left = none_left _ c.args.order c.args.from;
    }

-- its pair is where it was, and the slot that it goes to is empty
pub take-requires : goal.take-requires
take-requires g c =
    let inv = c.loop-place.invariant in
    let stays = stands_still inv.left c.loop-place.auto.place (λ i le lt. c.requires.apart i c.loop-place.place le lt c.loop-place-test.true) in
    (search steps, rw (at_place c.loop-place.rest c.args.order c.loop-place.place c.slot_at-slot.ensures inv.rest) (has_both inv.rows (named c.args.order c.loop-place.place) (rw stays (c.requires.stand c.loop-place.place c.loop-place.auto.place c.loop-place-test.true))).0)

pub put-requires : goal.put-requires
put-requires g c = (search steps, (omega (arith, c.loop-place-test.true, c.requires.few), (has_none c.loop-place.invariant.to _ (c.loop-place.invariant.turn.none _ (omega (arith, c.loop-place.auto.place)))).0))

pub put-requires-in-loop-place : goal.put-requires-in-loop-place
put-requires-in-loop-place g c = (search steps, (omega (arith, c.loop-place-test.true, c.requires.few), (has_none c.loop-place.invariant.to _ (c.loop-place.invariant.turn.none _ (omega (arith, c.loop-place.auto.place)))).1))

pub loop-place-preserved : goal.loop-place-preserved
loop-place-preserved g c =
    let inv = c.loop-place.invariant in
    let place = c.loop-place.place in
    let is = at_place c.loop-place.rest c.args.order c.loop-place.place c.slot_at-slot.ensures inv.rest in
    let there = is_pair inv.rows c.slot_at-slot.result _ _ c.take.ensures.value c.take-in-loop-place.ensures.value in
    let within : place - c.args.from < length (zipped c.loop-place.to_keys.slots c.loop-place.to_vals.slots) = omega (arith, c.loop-place-test.true, c.requires.few, c.loop-place.to_keys.whole, length-zipped _ _ inv.to.same) in
    let apart : (i : ℕ) → c.args.from ≤ i → i < place → named c.args.order i ≢ named c.args.order place = λ i le lt. c.requires.apart i place le lt c.loop-place-test.true in
    let gone = pair_set inv.rows c.slot_at-slot.result None None refl in
    let come = pair_set inv.to (place - c.args.from) (Some c.take.result) (Some c.take-in-loop-place.result) refl in
    record {
      rest = λ i.
          let next : place + (1 + i) ≡ place + 1 + i = omega arith in
          named_later c.loop-place.rest 1 i ∙ inv.rest (1 + i) ∙ ap (named c.args.order) next;
      rows = rw (c.take.ensures.spent, c.take-in-loop-place.ensures.spent) (rows_alike gone.same refl gone.alike);
      to = rw (c.put.ensures, c.put-in-loop-place.ensures) (rows_alike come.same refl come.alike);
      turn = rw (c.put.ensures, c.put-in-loop-place.ensures, come.view) (turn_more inv.left c.loop-place.auto.place apart inv.turn within _ (rw is at there));
      left = rw (c.take.ensures.spent, c.take-in-loop-place.ensures.spent, gone.view, is) (left_more inv.left c.loop-place.auto.place apart);
    }

pub returns : goal.returns
returns g c =
    let inv = c.loop-place.invariant in
    let all : c.loop-place.place ≡ c.args.end = omega (arith, c.loop-place-test.false, c.loop-place.auto.place-end c.requires.ends) in
    record { turn = rw all at inv.turn; left = rw all at inv.left; alike = inv.rows.alike; to_alike = inv.to.alike }
