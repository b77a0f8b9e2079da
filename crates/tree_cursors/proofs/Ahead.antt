-- What lies ahead of an end of a cursor on its way, and where a move takes it.
use Rattle.std.proofs.Common.{◌≡◌, ℕ, zero, suc, ◌+◌, ◌-◌, ◌<◌, ◌≤◌, Bool, true, false, if◌then◌else◌, leb, List, [], ◌∷◌, ◌++◌, length, drop, take, reverse, slice_get, Option, Some, None, append_assoc, length-append, length-drop, length-take, length-take-le, add-one, sub-one, refl, sym, ap, ◌∙◌, arith, inl, inr, option_map, take_at, take-append-drop, lt-ltb, le-ltb, is_le, Ordering, Less}
use Rattle.tree_model.proofs.Common.{IsTotalOrder, AllByRecursion, Bound, nat_tests, reverse_onto, reverse-append, drop_all, cases_lt, alike_right, IsAscending, AllLarger, along, opposite, End, unopened, at_place, greatest_place, meets, next_end}
use Rattle.tree_cursors.proofs.RangesCommon.{Back, On, StandsInside, Way, ahead, all-append, all_along, all_at, all_map, are_apart, drop-take, end_at, exhausted, from_end, least_place, length-reverse, piece, place_beside, slice_get_cases, slice_get_within, step_takes, until_end}
use Rattle.std.specs.Option.{option_or}
use Rattle.tree_cursors.specs.Ranged.{end_left as left}

-- what the end of a way is known to do: a backward end stands inside the list
abbrev pub Holds : {X : Type 0} → Way → List X → End → Type 0
Holds On xs end = Unit {0}
Holds Back xs end = StandsInside xs end

-- whether the ends are apart, told by the end of a way and the other one
abbrev pub apart : Way → End → End → Bool
apart On own other = are_apart own other
apart Back own other = are_apart other own

-- the ends are apart where more places are left of both than there are
pub apart_is : (way : Way) (len j : ℕ) (other : End) → j < len
    → apart way (at_place j) other ≡ leb len (left way len (at_place j) + left (opposite way) len other)
apart_is way len j other lt = grind (arith, nat_tests)

module _ {X : Type 0} where
  pub there_is : (xs : List X) (j : ℕ) → j < length xs → (x : X) × (slice_get xs j ≡ Some x)
  there_is xs j lt = elim (slice_get_cases xs j).1 [ inl inside ↦ (inside.0, inside.2) | inr past ↦ absurd (omega arith) ]

  -- what lies ahead of an end, in the order of its way
  abbrev pub ahead_of : Way → List X → End → List X
  ahead_of On xs end = drop (from_end (length xs) end) xs
  ahead_of Back xs end = reverse (take (until_end (length xs) end) xs)

  pub at_ahead : (way : Way) (xs : List X) (i : ℕ) → ahead_of way xs (at_place i) ≡ ahead way xs (Some i)
  at_ahead way xs i = grind arith

  pub holds_inside : (way : Way) (xs : List X) (end : End) → StandsInside xs end → Holds way xs end
  holds_inside On xs end inside = tt
  holds_inside Back xs end inside = inside

  within_until : (xs : List X) (end : End) → StandsInside xs end → until_end (length xs) end ≤ length xs
  within_until xs end inside = grind arith

  pub left_is : (way : Way) (xs : List X) (end : End) → Holds way xs end → length (ahead_of way xs end) ≡ left way (length xs) end
  left_is On xs end held = length-drop (from_end (length xs) end) xs ∙ grind arith
  left_is Back xs end held = length-reverse (take (until_end (length xs) end) xs) ∙ length-take-le (until_end (length xs) end) xs (within_until xs end held) ∙ grind arith

  -- what stands between two ends, told by the end of a way and the other one, is the first of what lies ahead
  abbrev pub between_on : Way → List X → End → End → List X
  between_on On xs own other = piece xs (from_end (length xs) own) (until_end (length xs) other)
  between_on Back xs own other = piece xs (from_end (length xs) other) (until_end (length xs) own)

  cut : (a b : ℕ) (xs : List X) → drop a (take b xs) ≡ take (b - a) (drop a xs)
  cut a b xs = elim (cases_lt b a) [
    | inl none ↦
        let zero_left : b - a ≡ 0 = omega arith in
        rw (zero_left, drop_all a (take b xs) (omega (arith, length-take b xs))) refl
    | inr some ↦ let whole : b ≡ a + (b - a) = omega arith in ap (λ n. drop a (take n xs)) whole ∙ drop-take a (b - a) xs
  ]

  cut_turned : (a : ℕ) (xs : List X) → reverse (drop a xs) ≡ take (length xs - a) (reverse xs)
  cut_turned a xs =
      sym (take_at (reverse (drop a xs)) (reverse (take a xs)) (length xs - a) (length-reverse (drop a xs) ∙ length-drop a xs))
      ∙ ap (take (length xs - a)) (sym (reverse-append (take a xs) (drop a xs)) ∙ ap reverse (take-append-drop a xs))

  pub between_is : (way : Way) (xs : List X) (own other : End) → Holds way xs own → Holds (opposite way) xs other
      → along way (between_on way xs own other) ≡ take (left way (length xs) own + left (opposite way) (length xs) other - length xs) (ahead_of way xs own)
  between_is On xs own other held inside =
      cut (from_end (length xs) own) (until_end (length xs) other) xs ∙ ap (λ n. take n (ahead_of On xs own)) (grind (arith, within_until xs other inside))
  between_is Back xs own other inside held =
      let ahead = take (until_end (length xs) own) xs in
      cut_turned (from_end (length xs) other) ahead
      ∙ ap (λ n. take n (reverse ahead)) (grind (arith, length-take-le (until_end (length xs) own) xs (within_until xs own inside), within_until xs own inside))

-- none of these passes
abbrev pub Fails : {X : Type 0} → (X → Bool) → List X → Type 0
Fails test xs = AllByRecursion (λ x. test x ≡ false) xs

module _ {X : Type 0} (way : Way) (test : X → Bool) (xs : List X) where
  -- all that lies ahead of a place passes
  abbrev pub Pass : End → Type 0
  Pass unopened = Unit {0}
  Pass (at_place i) = AllByRecursion (λ x. test x ≡ true) (ahead_of way xs (at_place i))
  Pass exhausted = Unit {0}

  -- an end comes to place j, over what doesn't pass
  pub record Comes (old : End) (j : ℕ) : Type 0 where
    pub skipped : List X
    pub item : X
    pub here : slice_get xs j ≡ Some item
    pub fails : Fails test skipped
    pub parts : ahead_of way xs old ≡ skipped ++ item ∷ ahead_of way xs (at_place j)
    pub passes : Pass old → test item ≡ true

  -- or it leaves the list
  abbrev pub ComesTo : End → End → Type 0
  ComesTo old unopened = ⊥
  ComesTo old (at_place j) = Comes old j
  ComesTo old exhausted = Fails test (ahead_of way xs old)

  pub inside_then : (old new : End) → ComesTo old new → StandsInside xs new
  inside_then old unopened comes = tt
  inside_then old (at_place j) comes = slice_get_within xs j comes.item comes.here
  inside_then old exhausted comes = tt

  -- fewer places are left then
  pub fewer : (old : End) (j : ℕ) (comes : Comes old j) → Holds way xs old
      → left way (length xs) old ≡ length comes.skipped + suc (left way (length xs) (at_place j))
  fewer old j comes held =
      let here = left_is way xs (at_place j) (holds_inside way xs (at_place j) (slice_get_within xs j comes.item comes.here)) in
      omega (arith, left_is way xs old held, ap length comes.parts, length-append comes.skipped (comes.item ∷ ahead_of way xs (at_place j)))

  one_on : (i j : ℕ) (x : X) → slice_get xs j ≡ Some x → ahead_of way xs (at_place i) ≡ x ∷ ahead_of way xs (at_place j) → Comes (at_place i) j
  one_on i j x here parts = record { skipped = []; item = x; here = here; fails = tt; parts = parts; passes = λ begun. (rw parts at begun).0 }

module _ {X : Type 0} (test : X → Bool) where
  least_comes : (xs : List X) → ComesTo On test xs unopened (end_at (least_place test xs))
  least_comes [] = tt
  least_comes (x ∷ xs) = by_test (test x) refl (least_place test xs) (least_comes xs)
    where
      by_test : (b : Bool) → test x ≡ b → (found : Option ℕ) → ComesTo On test xs unopened (end_at found)
          → ComesTo On test (x ∷ xs) unopened (end_at (if b then Some 0 else option_map (λ i. suc i) found))
      by_test true told found again = record { skipped = []; item = x; here = refl; fails = tt; parts = refl; passes = λ new. told }
      by_test false told None again = (told, again)
      by_test false told (Some j) again = record {
        skipped = x ∷ again.skipped;
        item = again.item;
        here = again.here;
        fails = (told, again.fails);
        parts = rw add-one (rw add-one at (ap (λ ys. x ∷ ys) again.parts));
        passes = λ new. again.passes tt;
      }

  greatest_comes : (xs : List X) → ComesTo Back test xs unopened (end_at (greatest_place test xs))
  greatest_comes [] = tt
  greatest_comes (x ∷ xs) = by_found (greatest_place test xs) (greatest_comes xs) (test x) refl
    where
      by_found : (found : Option ℕ) → ComesTo Back test xs unopened (end_at found) → (b : Bool) → test x ≡ b
          → ComesTo Back test (x ∷ xs) unopened (end_at (option_or (option_map (λ i. suc i) found) (if b then Some 0 else None)))
      by_found None again true told = record {
        skipped = ahead_of Back xs unopened;
        item = x;
        here = refl;
        fails = again;
        parts = reverse_onto (take (length xs) xs) x [];
        passes = λ new. told;
      }
      by_found None again false told = rw (reverse_onto (take (length xs) xs) x []) (all-append _ (reverse (take (length xs) xs)) (x ∷ []) again (told, tt))
      by_found (Some j) again b told = record {
        skipped = again.skipped;
        item = again.item;
        here = again.here;
        fails = again.fails;
        parts = rw (reverse_onto (take (length xs) xs) x [], reverse_onto (take j xs) x [], again.parts)
            (append_assoc again.skipped (again.item ∷ reverse (take j xs)) (x ∷ []));
        passes = λ new. again.passes tt;
      }

  -- an end at a place goes to the one beside it
  beside_comes : (way : Way) (xs : List X) (i : ℕ) → Holds way xs (at_place i) → ComesTo way test xs (at_place i) (end_at (place_beside way (length xs) i))
  beside_comes On xs i held = elim (cases_lt (i + 1) (length xs)) [
    | inl inner ↦
        let next = there_is xs (i + 1) inner in
        rw (lt-ltb (i + 1) (length xs) inner) (one_on On test xs i (i + 1) next.0 next.1
        (step_takes On xs (Some i) (Some (i + 1)) next.0 (omega arith, next.1, refl)))
    | inr past ↦ rw (le-ltb (i + 1) (length xs) past, drop_all (i + 1) xs past) tt
  ]
  beside_comes Back xs zero held = tt
  beside_comes Back xs (suc i) held =
      let next = there_is xs i (omega arith) in
      one_on Back test xs (suc i) i next.0 next.1 (step_takes Back xs (Some (suc i)) (Some i) next.0 (rw sub-one (omega arith, next.1, refl)))

-- where a move takes an end
pub comes : {K V : Type 0} (cmp : K → K → Ordering) (way : Way) (bound : Bound K) (l : List (K × V)) (old : End) → Holds way l old
    → ComesTo way (λ pair. meets cmp way bound pair.0) l old (next_end cmp way bound l old)
comes cmp On bound l unopened held = least_comes (λ pair. meets cmp On bound pair.0) l
comes cmp Back bound l unopened held = greatest_comes (λ pair. meets cmp Back bound pair.0) l
comes cmp way bound l (at_place i) held = beside_comes (λ pair. meets cmp way bound pair.0) way l i held
comes cmp On bound l exhausted held = rw (drop_all (length l) l (omega arith)) tt
comes cmp Back bound l exhausted held = tt

-- y comes later than x on the way
abbrev pub Later : {K : Type 0} → (K → K → Ordering) → Way → K → K → Type 0
Later cmp On x y = cmp x y ≡ Less
Later cmp Back x y = cmp y x ≡ Less

module _ {K : Type 0} {cmp : K → K → Ordering} (o : IsTotalOrder cmp) where
  pub above_le : (h x y : K) → is_le (cmp h x) ≡ true → cmp x y ≡ Less → cmp h y ≡ Less
  above_le h x y le less = grind (arith, o.trans, o.congr)

  module _ {V : Type 0} where
    -- what lies ahead of a place comes later
    on_later : (l : List (K × V)) (j : ℕ) (x : K × V) → IsAscending cmp l → slice_get l j ≡ Some x → AllLarger cmp x.0 (drop (j + 1) l)
    on_later [] j x ascending is = absurd (cc)
    on_later (p ∷ ps) zero x ascending is = let same : x ≡ p = cc in rw same ascending.0
    on_later (p ∷ ps) (suc j) x ascending is = rw add-one (rw add-one at (on_later ps j x ascending.1 is))

    back_later : (l : List (K × V)) (j : ℕ) (x : K × V) → IsAscending cmp l → slice_get l j ≡ Some x → AllByRecursion (λ y. cmp y.0 x.0 ≡ Less) (take j l)
    back_later l zero x ascending is = tt
    back_later [] (suc j) x ascending is = tt
    back_later (p ∷ ps) (suc j) x ascending is = (all_at (λ q. cmp p.0 q.0 ≡ Less) ps j x ascending.0 is, back_later ps j x ascending.1 is)

    pub all_later : (way : Way) (l : List (K × V)) (j : ℕ) (x : K × V) → IsAscending cmp l → slice_get l j ≡ Some x
        → AllByRecursion (λ y. Later cmp way x.0 y.0) (ahead_of way l (at_place j))
    all_later On l j x ascending is = on_later l j x ascending is
    all_later Back l j x ascending is = all_along (λ (y : K × V). cmp y.0 x.0 ≡ Less) Back (take j l) (back_later l j x ascending is)

    -- so all of it is within the bound at which the way begins if the place is, and nothing of it within the one where it stops if the place isn't
    module _ (way : Way) (bound : Bound K) (l : List (K × V)) (j : ℕ) (x : K × V) (ascending : IsAscending cmp l) (here : slice_get l j ≡ Some x) where
      pub all_pass : meets cmp way bound x.0 ≡ true → Pass way (λ pair. meets cmp way bound pair.0) l (at_place j)
      all_pass met = all_map (λ y later. grind (arith, o.trans, o.congr, alike_right o, later, met)) (ahead_of way l (at_place j)) (all_later way l j x ascending here)

      pub all_fail : meets cmp (opposite way) bound x.0 ≡ false → Fails (λ pair. meets cmp (opposite way) bound pair.0) (ahead_of way l (at_place j))
      all_fail missed = all_map (λ y later. grind (arith, o.trans, o.congr, alike_right o, later, missed)) (ahead_of way l (at_place j)) (all_later way l j x ascending here)
