-- An end that has answered None answers None for ever.
use Rattle.tree_cursors.proofs.RangesCommon.{◌≡◌, ◌⊎◌, ℕ, zero, suc, ◌+◌, ◌<◌, ◌≤◌, Bool, true, false, if◌then◌else◌, List, [], ◌∷◌, ◌++◌, drop, append-nil, length, slice_get, Option, None, refl, sym}
use Rattle.tree_cursors.proofs.RangesCommon.{ap, ◌∙◌, arith, inl, inr, is_some, le-leb, Ordering, IsTotalOrder, Bound, IsAscending, cases_lt, opposite, Cursor, End, unopened, at_place}
use Rattle.tree_cursors.proofs.RangesCommon.{element_at, meets, next_end, shown, AllNone, Back, Ended, On, StandsInside, Told, Way, after, and_parts, answer, answers, bound_on, can_turn, end_on}
use Rattle.tree_cursors.proofs.RangesCommon.{exhausted, flipped, is_unopened, lt-leb, move_on, moved, option_where, pair, shown_apart, slice_get_within, turned, Move, Next, NextBack, Get, GetBack, Flip}
use Rattle.tree_cursors.proofs.RangesCommon.{drop_of_length-le}
use Rattle.tree_node.proofs.Cuts.{all_behind}
use Rattle.tree_cursors.specs.Ranged.{end_left as left}
use Rattle.tree_cursors.proofs.Ahead.{ComesTo, Fails, Holds, ahead_of, all_fail, apart, apart_is, comes, fewer, inside_then}
use Rattle.tree_cursors.proofs.Yields.{if_none}

-- an end that shows a pair stands inside
inside_shown : {X : Type 0} (l : List X) (test : X → Bool) (end : End) → is_some (option_where test (element_at l end)) ≡ true → StandsInside l end
inside_shown l test unopened shows = tt
inside_shown l test exhausted shows = tt
inside_shown l test (at_place i) shows = grind (arith, slice_get_within)

module _ {K V : Type 0} {cmp : K → K → Ordering} (o : IsTotalOrder cmp) where
  abbrev fits : Way → Cursor K V → K × V → Bool
  fits way c p = meets cmp (opposite way) (bound_on (opposite way) c) p.0

  -- no pair of the list from the end's place on is within the bound where it stops, or the other end is there or was before it
  abbrev pub IsOverAt : Way → (K × V → Bool) → List (K × V) → End → End → Type 0
  IsOverAt way test l unopened other = ⊥
  IsOverAt way test l (at_place j) other =
      ((option_where test (slice_get l j) ≡ None) × Fails test (ahead_of way l (at_place j))) ⊎ (left way (length l) (at_place j) + left (opposite way)
      (length l) other < length l)
  IsOverAt way test l exhausted other = Unit {0}

  -- the end of the way will answer no pair more
  abbrev pub IsOver : Way → Cursor K V → Type 0
  IsOver way c = IsOverAt way (fits way c) c.pairs (end_on way c) (end_on (opposite way) c)

  module _ (way : Way) (l : List (K × V)) where
    -- a move leaves no more places of an end
    no_more : (bound : Bound K) (old : End) → Holds way l old → left way (length l) (next_end cmp way bound l old) ≤ left way (length l) old
    no_more bound old held = by_new (next_end cmp way bound l old) (comes cmp way bound l old held)
      where
        by_new : (new : End) → ComesTo way (λ pair. meets cmp way bound pair.0) l old new → left way (length l) new ≤ left way (length l) old
        by_new unopened to = absurd to
        by_new (at_place j) to = omega (arith, fewer way (λ pair. meets cmp way bound pair.0) l old j to held)
        by_new exhausted to = omega arith

    -- it stays so whichever end moves
    over_own : (test begins : K × V → Bool) (own new other : End) → Holds way l own → ComesTo way begins l own new → IsOverAt way test l own other
        → IsOverAt way test l new other
    over_own test begins unopened new other held to over = absurd over
    over_own test begins own unopened other held to over = absurd to
    over_own test begins own exhausted other held to over = tt
    over_own test begins exhausted (at_place j) other held to over = absurd (omega (arith, fewer way begins l exhausted j to held))
    over_own test begins (at_place i) (at_place j) other held to (inl hidden) =
        let fails = all_behind _ to.skipped (to.item ∷ _) (rw to.parts at hidden.1) in
        inl (rw (to.here, fails.0) refl, fails.1)
    over_own test begins (at_place i) (at_place j) other held to (inr met) = inr (omega (arith, fewer way begins l (at_place i) j to held))

    over_other : (test : K × V → Bool) (own other new : End) → left (opposite way) (length l) new ≤ left (opposite way) (length l) other
        → IsOverAt way test l own other → IsOverAt way test l own new
    over_other test unopened other new fewer over = absurd over
    over_other test (at_place j) other new fewer (inl hidden) = inl hidden
    over_other test (at_place j) other new fewer (inr met) = inr (omega arith)
    over_other test exhausted other new fewer over = tt

    -- then no pair is answered
    over_none : (test : K × V → Bool) (own other : End) → StandsInside l own → IsOverAt way test l own other
        → if◌then◌else◌ {A = Option (K × V)} (apart way own other) (option_where test (element_at l own)) None ≡ None
    over_none test unopened other inside over = absurd over
    over_none test (at_place j) other inside (inl hidden) = rw hidden.0 (if_none (apart way (at_place j) other))
    over_none test (at_place j) other inside (inr met) = rw (apart_is way (length l) j other inside, lt-leb (length l) _ met) refl
    over_none test exhausted other inside over = if_none (apart way exhausted other)

  -- and an end that has moved and answers none is over
  over_from : (way : Way) (bound : Bound K) (l : List (K × V)) (begins : K × V → Bool) (old own other : End) → IsAscending cmp l → ComesTo way begins l old own
      → if◌then◌else◌ {A = Option (K × V)} (apart way own other) (option_where (λ (p : K × V). meets cmp (opposite way) bound p.0) (element_at l own)) None ≡ None
      → IsOverAt way (λ p. meets cmp (opposite way) bound p.0) l own other
  over_from way bound l begins old unopened other ascending to none = absurd to
  over_from way bound l begins old exhausted other ascending to none = tt
  over_from way bound l begins old (at_place j) other ascending to none =
      elim (cases_lt (left way (length l) (at_place j) + left (opposite way) (length l) other) (length l)) [
        | inl met ↦ inr met
        | inr le ↦
            let lt = slice_get_within l j to.item to.here in
            let hidden = rw (apart_is way (length l) j other lt, le-leb (length l) _ le) at none in
            let missed : meets cmp (opposite way) bound to.item.0 ≡ false = let hides = rw to.here at hidden in grind arith in
            inl (hidden, all_fail o way bound l j to.item ascending to.here missed)
      ]

  -- a cursor with such an end isn't flipped
  not_flipped : (way : Way) (c : Cursor K V) → is_unopened (end_on way c) ≡ false
      → (is_unopened (end_on (opposite way) c) ≡ true → is_some (shown cmp way c) ≡ false) → flipped cmp c ≡ c
  not_flipped way c opened hides = grind arith

  over_flip : (way : Way) (c : Cursor K V) → IsOver way c → flipped cmp c ≡ c
  over_flip way c over = by_own (end_on way c) refl over
    where
      by_own : (own : End) → end_on way c ≡ own → IsOverAt way (fits way c) c.pairs own (end_on (opposite way) c) → flipped cmp c ≡ c
      by_own unopened is over = absurd over
      by_own (at_place j) is (inl hidden) = not_flipped way c (rw is refl) (λ new. rw (is, hidden.0) refl)
      by_own (at_place j) is (inr met) = not_flipped way c (rw is refl) (λ new. absurd (grind arith))
      by_own exhausted is over = not_flipped way c (rw is refl) (λ new. rw is refl)

  -- what holds of every cursor that has moved
  record IsSound (c : Cursor K V) : Type 0 where
    ascending : IsAscending cmp c.pairs
    inside : StandsInside c.pairs c.backward

  sound_after : (m : Move) (c : Cursor K V) → IsSound c → IsSound (after cmp m c)
  sound_after Next c sound = record { ascending = sound.ascending; inside = sound.inside }
  sound_after NextBack c sound =
      record { ascending = sound.ascending; inside = inside_then Back _ c.pairs c.backward _ (comes cmp Back c.high c.pairs c.backward sound.inside) }
  sound_after Get c sound = sound
  sound_after GetBack c sound = sound
  sound_after Flip c sound = by_turn (can_turn cmp On c) refl (can_turn cmp Back c)
    where
      by_turn : (on : Bool) → can_turn cmp On c ≡ on → (back : Bool) → IsSound (if on then turned cmp On c else if back then turned cmp Back c else c)
      by_turn true is back = record {
        ascending = sound.ascending;
        inside = inside_shown c.pairs (λ pair. meets cmp Back c.high pair.0) c.forward (and_parts _ _ is).1;
      }
      by_turn false is true = record { ascending = sound.ascending; inside = tt }
      by_turn false is false = sound

  over_after : (way : Way) (m : Move) (c : Cursor K V) → IsSound c → IsOver way c → IsOver way (after cmp m c)
  over_after On Next c sound over = over_own On c.pairs (fits On c) _ c.forward _ c.backward tt (comes cmp On c.low c.pairs c.forward tt) over
  over_after On NextBack c sound over = over_other On c.pairs (fits On c) c.forward c.backward _ (no_more Back c.pairs c.high c.backward sound.inside) over
  over_after Back Next c sound over = over_other Back c.pairs (fits Back c) c.backward c.forward _ (no_more On c.pairs c.low c.forward tt) over
  over_after Back NextBack c sound over = over_own Back c.pairs (fits Back c) _ c.backward _ c.forward sound.inside
      (comes cmp Back c.high c.pairs c.backward sound.inside) over
  over_after way Get c sound over = over
  over_after way GetBack c sound over = over
  over_after way Flip c sound over = rw (over_flip way c over) over

  -- the move of this end, what it answers and what it makes of the cursor
  own_move : (way : Way) (c : Cursor K V) → (answer cmp (move_on way) c ≡ pair (shown_apart cmp way (moved cmp way c))) × (after cmp
      (move_on way) c ≡ moved cmp way c)
  own_move way c = grind arith

  told_over : (way : Way) (c : Cursor K V) → IsSound c → IsOver way c → shown_apart cmp way (moved cmp way c) ≡ None
  told_over On c sound over =
      let to = comes cmp On c.low c.pairs c.forward tt in
      over_none On c.pairs (fits On c) _ c.backward (inside_then On _ c.pairs c.forward _ to) (over_after On Next c sound over)
  told_over Back c sound over =
      let to = comes cmp Back c.high c.pairs c.backward sound.inside in
      over_none Back c.pairs (fits Back c) _ c.forward (inside_then Back _ c.pairs c.backward _ to) (over_after Back NextBack c sound over)

  all_none : (way : Way) (moves : List Move) (c : Cursor K V) → IsSound c → IsOver way c → AllNone (move_on way) moves (answers cmp moves c)
  all_none way [] c sound over = tt
  all_none way (m ∷ moves) c sound over = (
    λ is. rw is ((own_move way c).0 ∙ ap pair (told_over way c sound over)),
    all_none way moves (after cmp m c) (sound_after m c sound) (over_after way m c sound over),
  )

  -- a None of this end is followed by no pair of it
  over_then : (way : Way) (c : Cursor K V) → IsSound c → shown_apart cmp way (moved cmp way c) ≡ None → IsOver way (moved cmp way c)
  over_then On c sound none = over_from On c.high c.pairs _ c.forward _ c.backward sound.ascending (comes cmp On c.low c.pairs c.forward tt) none
  over_then Back c sound none = over_from Back c.low c.pairs _ c.backward _ c.forward sound.ascending
      (comes cmp Back c.high c.pairs c.backward sound.inside) none

  ended : (way : Way) (moves : List Move) (c : Cursor K V) → IsSound c → Ended (move_on way) moves (answers cmp moves c)
  ended way [] c sound = tt
  ended way (m ∷ moves) c sound = (
    λ is none.
        let mine = own_move way c in
        let told = sym mine.0 ∙ rw is at none in
        let over = over_then way c sound (cc) in
        all_none way moves (after cmp m c) (sound_after m c sound) (rw (is, mine.1) over),
    ended way moves (after cmp m c) (sound_after m c sound),
  )

  -- the same once all moves are made, where what holds of the cursor before the first move is told by that move
  pub ended_all : (way : Way) (moves : List Move) (i : ℕ) (start now : Cursor K V) (given : List (Told K V)) → given ++ answers cmp (drop i moves) now ≡ answers cmp moves start → length moves ≤ i
      → (1 ≤ i → IsAscending cmp start.pairs) → (1 ≤ i → StandsInside start.pairs start.backward) → Ended (move_on way) moves given
  ended_all way [] i start now given is all ascending inside = tt
  ended_all way (m ∷ moves) i start now given is all ascending inside =
      let none : drop i (m ∷ moves) ≡ [] = drop_of_length-le (m ∷ moves) all in
      let same : given ≡ answers cmp (m ∷ moves) start = sym (append-nil given) ∙ rw none at is in
      rw same (ended way (m ∷ moves) start (record { ascending = ascending (omega (arith, all)); inside = inside (omega (arith, all)) }))

  pub inside_from : (i : ℕ) (start now : Cursor K V) → (i ≡ 0 → now ≡ start) → (1 ≤ i → StandsInside start.pairs start.backward) → StandsInside now.pairs now.backward → StandsInside start.pairs start.backward
  inside_from zero start now first later inside = rw (first refl) at inside
  inside_from (suc i) start now first later inside = later (omega arith)
