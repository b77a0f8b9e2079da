-- A move answers the first of the pairs that are left on its way.
use Rattle.std.proofs.Common.{drop, take-append-drop, ◌≡◌, ℕ, ◌+◌, ◌-◌, ◌≤◌, Bool, true, false, ◌&&◌, if◌then◌else◌, List, [], ◌∷◌, ◌++◌, length, take, reverse, Option, Some, None, Bor, append_assoc, append-nil, refl, sym, ◌∙◌, suc, arith, inl, inr, filter, le-leb, Ordering, take_all, take-add, take_at, drop_at}
use Rattle.tree_model.proofs.Common.{IsTotalOrder, reverse_onto, filter-append, cases_lt, IsAscending, within, lent_entry, HasBegun, Moves, rest, along, opposite, Cursor, End, unopened, at_place, element_at, meets, next_end}
use Rattle.tree_cursors.proofs.RangesCommon.{Back, IsFresh, On, StandsWhere, Way, all_map, and_right, between, bound_on, cases_Bool, exhausted, filter_none, lt-leb, option_where, pairs_within, slice_get_within, take-append-le}
use Rattle.std.specs.Map.Iter.{TakesFirst}
use Rattle.tree_leaf.proofs.Rests.{takes_lent}
use Rattle.std.proofs.Math.Bool.{and_comm}
use Rattle.tree_node.proofs.Cuts.{all_front}
use Rattle.tree_cursors.specs.Ranged.{end_left as left}
use Rattle.tree_cursors.proofs.Ahead.{ComesTo, Fails, Holds, Pass, ahead_of, all_fail, all_pass, apart, apart_is, between_is, between_on, comes, fewer, holds_inside}

-- what was left, what was answered and what is left
abbrev Splits : {X : Type 0} → List X → Option X → List X → Type 0
Splits = TakesFirst (λ x. x)

pub if_none : {X : Type 0} (b : Bool) → if◌then◌else◌ {A = Option X} b None None ≡ None
if_none b = grind arith

module _ {X : Type 0} where
  take_fails : (test : X → Bool) (n : ℕ) (xs : List X) → Fails test xs → Fails test (take n xs)
  take_fails test n xs fails = all_front _ (take n xs) (drop n xs) (rw take-append-drop fails)

  take_over : (xs : List X) (x : X) (ys : List X) (n m : ℕ) → n ≡ length xs + suc m → take n (xs ++ x ∷ ys) ≡ xs ++ x ∷ take m ys
  take_over xs x ys n m is = rw (
    is,
    take-add (length xs) (suc m) (xs ++ x ∷ ys),
    take_at xs (x ∷ ys) (length xs) refl,
    drop_at xs (x ∷ ys) (length xs) refl,
  ) refl

  module _ (inside begins stops : X → Bool) (both : (x : X) → inside x ≡ (begins x && stops x)) where
    none_begins : (xs : List X) → Fails begins xs → filter inside xs ≡ []
    none_begins xs fails = filter_none inside xs (all_map {P = λ x. begins x ≡ false} {Q = λ x. inside x ≡ false}
        (λ x missed. rw (both x, missed) refl) xs fails)

    -- the first element within the bound where the way begins, before others that aren't within the other one if it isn't
    splits : (skipped : List X) (x : X) (others : List X) → Fails begins skipped → begins x ≡ true → (stops x ≡ false → Fails stops others)
        → Splits (filter inside (skipped ++ x ∷ others)) (option_where stops (Some x)) (filter inside others)
    splits skipped x others fails met over = rw (filter-append inside skipped (x ∷ others), none_begins skipped fails, both x, met)
        (let none = λ (hides : stops x ≡ false). filter_none inside others (all_map {P = λ y. stops y ≡ false} {Q = λ y. inside y ≡ false}
        (λ y missed. both y ∙ and_right (begins y) (stops y) missed) others (over hides)) in
        elim (cases_Bool (stops x)) [ inl shows ↦ rw shows refl | inr hides ↦ rw (hides, none hides) (refl, refl) ])

module _ {K V : Type 0} {cmp : K → K → Ordering} (o : IsTotalOrder cmp) (c : Cursor K V) (ascending : IsAscending cmp c.pairs) where
  abbrev inside : K × V → Bool
  inside pair = within cmp c.low c.high pair.0

  abbrev begins : Way → K × V → Bool
  begins way pair = meets cmp way (bound_on way c) pair.0

  abbrev stops : Way → K × V → Bool
  stops way pair = meets cmp (opposite way) (bound_on (opposite way) c) pair.0

  both : (way : Way) (pair : K × V) → inside pair ≡ (begins way pair && stops way pair)
  both way pair = grind (arith, and_comm (begins On pair) (begins Back pair))

  module _ (way : Way) where
    pass : (own : End) → StandsWhere (begins way) c.pairs own → Pass way (begins way) c.pairs own
    pass unopened stands = tt
    pass (at_place i) stands = all_pass o way (bound_on way c) c.pairs i stands.0 ascending stands.1 stands.2
    pass exhausted stands = tt

    stands_then : (own new : End) → Pass way (begins way) c.pairs own → ComesTo way (begins way) c.pairs own new → StandsWhere (begins way) c.pairs new
    stands_then own unopened passes to = tt
    stands_then own (at_place j) passes to = (to.item, to.here, to.passes passes)
    stands_then own exhausted passes to = tt

    module _ (own other : End) (held : Holds way c.pairs own) (other_held : Holds (opposite way) c.pairs other) where
      abbrev Gives : End → Type 0
      Gives new = Splits (filter inside (along way (between_on way c.pairs own other)))
          (if apart way new other then option_where (stops way) (element_at c.pairs new) else None)
          (filter inside (along way (between_on way c.pairs new other)))

      -- where a move takes an end, it answers the first that is left
      gives : (new : End) → Pass way (begins way) c.pairs own → ComesTo way (begins way) c.pairs own new → Gives new
      gives unopened passes to = absurd to
      gives exhausted passes to =
          let gone : Holds way c.pairs exhausted = holds_inside way c.pairs exhausted tt in
          let none = none_begins inside (begins way) (stops way) (both way) in
          rw (
            between_is way c.pairs own other held other_held,
            between_is way c.pairs exhausted other gone other_held,
            if_none {X = K × V} (apart way exhausted other),
          )
          (none _ (take_fails (begins way) _ _ to), none _ (take_fails (begins way) _ _ (comes cmp way (bound_on way c) c.pairs exhausted gone)))
      gives (at_place j) passes to =
          let lt = slice_get_within c.pairs j to.item to.here in
          let held_j = holds_inside way c.pairs (at_place j) lt in
          let count = fewer way (begins way) c.pairs own j to held in
          let N = length c.pairs in
          let sum = left way N (at_place j) + left (opposite way) N other in
          let all = left way N own + left (opposite way) N other - N in
          let ahead = ahead_of way c.pairs (at_place j) in
          rw (
            between_is way c.pairs own other held other_held,
            between_is way c.pairs (at_place j) other held_j other_held,
            apart_is way N j other lt,
            to.parts,
          ) (elim (cases_lt sum N) [
            | inl met ↦
                let gone : sum - N ≡ 0 = omega arith in
                let few : all ≤ length to.skipped = omega arith in
                rw (lt-leb N sum met, gone, take-append-le all to.skipped (to.item ∷ ahead) few)
                (none_begins inside (begins way) (stops way) (both way) _ (take_fails (begins way) all to.skipped to.fails), refl)
            | inr le ↦
                let whole : all ≡ length to.skipped + suc (sum - N) = omega arith in
                rw (le-leb N sum le, to.here, take_over to.skipped to.item ahead all (sum - N) whole)
                (splits inside (begins way) (stops way) (both way) to.skipped to.item (take (sum - N) ahead) to.fails (to.passes passes)
                (λ hides. take_fails (stops way) (sum - N) ahead (all_fail o way (bound_on (opposite way) c) c.pairs j to.item ascending to.here hides)))
          ])

      step : StandsWhere (begins way) c.pairs own → Gives (next_end cmp way (bound_on way c) c.pairs own) × StandsWhere (begins way) c.pairs
          (next_end cmp way (bound_on way c) c.pairs own)
      step stands =
          let to = comes cmp way (bound_on way c) c.pairs own held in
          (gives _ (pass own stands) to, stands_then own _ (pass own stands) to)

module _ {K V : Type 0} {cmp : K → K → Ordering} (o : IsTotalOrder cmp) where
  -- a cursor that moves takes the first of what is left on its way
  pub takes_first : (way : Way) (s t : Cursor K V) (r : Option (Bor K × Bor V)) → Moves cmp way s r t → HasBegun cmp way s
      → HasBegun cmp way t × TakesFirst lent_entry (rest cmp way s) r (rest cmp way t)
  takes_first On s t r moves begun =
      let step = step o s moves.ascending On s.forward s.backward tt moves.inside begun in
      rw moves.moves (step.1, takes_lent _ r _ _ (rw moves.moves at moves.answers) step.0)
  takes_first Back s t r moves begun =
      let step = step o s moves.ascending Back s.backward s.forward moves.inside tt begun in
      rw moves.moves (step.1, takes_lent _ r _ _ (rw moves.moves at moves.answers) step.0)

-- what was given and what is left are all that was left at the start; that the pairs ascend is known once the cursor has moved
pub record IsWalked {K V : Type 0} (cmp : K → K → Ordering) (way : Way) (start now : Cursor K V) (given : List (K × V)) : Type 0 where
  pub same : now.pairs ≡ start.pairs
  pub left : IsAscending cmp start.pairs → HasBegun cmp way now × (given ++ rest cmp way now ≡ rest cmp way start)

module _ {K V : Type 0} {cmp : K → K → Ordering} (o : IsTotalOrder cmp) (way : Way) (start : Cursor K V) where
  module _ (s t : Cursor K V) (given : List (K × V)) (walked : IsWalked cmp way start s given) where
    pub walked_on : (x : Bor K × Bor V) → Moves cmp way s (Some x) t → IsWalked cmp way start t (given ++ lent_entry x ∷ [])
    walked_on x moves = record {
      same = rw moves.moves (grind (arith, walked.same));
      left = λ ascending.
          let was = walked.left ascending in
          let takes = takes_first o way s t (Some x) moves was.0 in
          (takes.0, rw (append_assoc, ← takes.1) was.1);
    }

    pub walked_all : Moves cmp way s None t → given ≡ rest cmp way start
    walked_all moves =
        let was = walked.left (rw walked.same at moves.ascending) in
        let takes = takes_first o way s t None moves was.0 in
        sym (append-nil given) ∙ rw takes.1.0 at was.1

-- of a cursor that was never moved, all pairs within the bounds are left
module _ {K V : Type 0} (cmp : K → K → Ordering) (c : Cursor K V) (new : IsFresh c) where
  whole : between c ≡ c.pairs
  whole = rw (new.forward, new.backward) (take_all (length c.pairs) c.pairs (omega arith))

  pub fresh_begun : (way : Way) → HasBegun cmp way c
  fresh_begun On = rw new.forward tt
  fresh_begun Back = rw new.backward tt

  filter_turned : (test : K × V → Bool) (xs : List (K × V)) → filter test (reverse xs) ≡ reverse (filter test xs)
  filter_turned test [] = refl
  filter_turned test (x ∷ xs) = rw (reverse_onto xs x [], filter-append test (reverse xs) (x ∷ []), filter_turned test xs)
      (grind (arith, reverse_onto (filter test xs) x [], append-nil (reverse (filter test xs))))

  pub rest_fresh : (way : Way) → rest cmp way c ≡ along way (pairs_within cmp c)
  rest_fresh On = rw whole refl
  rest_fresh Back = rw whole (filter_turned (λ pair. within cmp c.low c.high pair.0) c.pairs)
