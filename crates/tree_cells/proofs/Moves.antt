-- Values that leave the slots of a row place by place and stand in another row in turn.
use Rattle.std.proofs.Common.{◌≡◌, ◌≢◌, ℕ, ◌+◌, ◌-◌, ◌<◌, ◌≤◌, List, length, set, replicate, get_or, Option, None, Some, refl, sym, ◌∙◌, inl, inr, arith, length-set, get_or-set_same, get_or-set_other}
use Rattle.tree_cells.proofs.Common.{none-some, places, cases_lt, cases_eq, get_or_past, get_or-replicate, HasInTurn, HasLeft, named}

module _ {X : Type 0} where
  -- what stands at a place stands within the list
  pub within : (xs : List (Option X)) (p : ℕ) (x : X) → get_or xs p None ≡ Some x → p < length xs
  within xs p x some = elim (cases_lt p (length xs)) [ inl lt ↦ lt | inr ge ↦ absurd (none-some x (sym (get_or_past xs p None ge) ∙ some)) ]

  pub none_replicated : (n p : ℕ) → get_or (replicate {A = Option X} n None) p None ≡ None
  none_replicated n p = elim (cases_lt p n) [ inl lt ↦ get_or-replicate n p None None lt | inr ge ↦ grind (arith, places, get_or_past) ]

  pub emptied : (xs : List (Option X)) (p : ℕ) → get_or (set xs p None) p None ≡ None
  emptied xs p = elim (cases_lt p (length xs)) [ inl lt ↦ get_or-set_same xs p None None lt | inr ge ↦ get_or_past (set xs p None) p None (omega (arith, length-set xs p None)) ]

  pub none_left : (xs : List (Option X)) (order from : ℕ) → HasLeft xs xs order from from
  none_left xs order from = record { gone = λ i le lt. absurd (omega arith); others = λ p away. refl }

  pub none_in_turn : (old new : List (Option X)) (order from : ℕ) → ((p : ℕ) → get_or new p None ≡ None) → HasInTurn old new order from from
  none_in_turn old new order from none = record { here = λ i lt. absurd (omega arith); none = λ i le. none i }

  -- one more value goes, from the slot that the place names
  module _ {old xs : List (Option X)} {order from place : ℕ} (left : HasLeft old xs order from place) (on : from ≤ place) (apart : (i : ℕ) → from ≤ i → i < place → named order i ≢ named order place) where
    pub stands_still : get_or xs (named order place) None ≡ get_or old (named order place) None
    stands_still = left.others (named order place) apart

    pub left_more : HasLeft old (set xs (named order place) None) order from (place + 1)
    left_more = record {
      gone = λ i le lt. grind (arith, places, emptied, left.gone i le, apart i le, cases_eq i place);
      others = λ p away. get_or-set_other xs (named order place) p None None (λ e. away place on (omega arith) (sym e)) ∙ left.others p (λ i le lt. away i le (omega arith));
    }

    -- and comes
    pub turn_more : {to : List (Option X)} → HasInTurn old to order from place → place - from < length to → (x : X) → get_or xs (named order place) None ≡ Some x → HasInTurn old (set to (place - from) (Some x)) order from (place + 1)
    turn_more {to} turn within x there = record {
      here = λ i lt. elim (cases_eq i (place - from)) [
        | inl same ↦
            let e : from + (place - from) ≡ place = omega arith in
            rw (same, e) (get_or-set_same to (place - from) (Some x) None within ∙ sym there ∙ stands_still)
        | inr other ↦ get_or-set_other to (place - from) i (Some x) None other ∙ turn.here i (omega (arith, other))
      ];
      none = λ i le. grind (arith, places, turn.none i);
    }

  -- what left up to one place, and what left from there on
  pub left_on : {old mid new : List (Option X)} {order from place end : ℕ} → HasLeft old mid order from place → HasLeft mid new order place end → from ≤ place → ((i j : ℕ) → i < place → place ≤ j → j < end → named order i ≢ named order j) → place ≤ end → HasLeft old new order from end
  left_on {order = order} {place = place} left more on apart ends = record {
    gone = λ i le lt. grind (arith, left.gone i le, more.gone i, more.others (named order i), apart i, cases_lt i place);
    others = λ p away. more.others p (λ i le lt. away i (omega arith) lt) ∙ left.others p (λ i le lt. away i le (omega arith));
  }
