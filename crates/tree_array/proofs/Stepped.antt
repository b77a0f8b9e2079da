-- Steps of a walk whose slots are named by a word.
use Rattle.std.proofs.Common.{◌≡◌, ℕ, ◌+◌, ◌-◌, ◌==◌, ◌<◌, ◌≤◌, if◌then◌else◌, length, slice_get, Option, None, Some, refl, sym, ap, ◌∙◌, arith, option_and_then}
use Rattle.tree_array.proofs.Common.{⊤, cases_eq, nat_tests, MakesProgress, named, names, Walk, slice_get_within, length-names, slice_get-names, Steps, On, Back, Way, place_ahead}
use Rattle.tree_array.proofs.Common.{places_behind, standing}
use Rattle.tree_array.specs.Walk.{steps_left}

-- the place before this one, if there is one
abbrev pub before : ℕ → Option ℕ
before ahead = if ahead == 0 then None else Some (ahead - 1)

before_some : (ahead : ℕ) → 0 < ahead → before ahead ≡ Some (ahead - 1)
before_some ahead some = grind (arith, nat_tests, some)

pub ahead_of : (ahead : ℕ) → place_ahead (before ahead) ≡ ahead
ahead_of ahead = grind (arith, before_some ahead)

-- how many places lie ahead of a walk back, by those that a walk on has passed
pub left_behind : (len places : ℕ) (at : Option ℕ) → place_ahead at ≡ places + 1 → places_behind len at ≡ places
left_behind len places None is = omega (arith, is)
left_behind len places (Some place) is = omega (arith, is)

pub all_behind : (len : ℕ) (at : Option ℕ) → place_ahead at ≡ 0 → places_behind len at ≡ len
all_behind len None is = refl
all_behind len (Some place) is = omega (arith, is)

module _ (order count ahead : ℕ) where
  slot_named : (place slot : ℕ) → place < count → slot ≡ named order place → slice_get (names order count) place ≡ Some slot
  slot_named place slot lt is = slice_get-names order count place lt ∙ ap (λ (x : ℕ). Some x) (sym is)

  -- the slot that the walk stands at
  pub stands_at : (slot : ℕ) → 0 < ahead → ahead ≤ count → slot ≡ named order (ahead - 1) → Some slot ≡ option_and_then (slice_get (names order count)) (before ahead)
  stands_at slot some few is = rw (before_some ahead some) (sym (slot_named (ahead - 1) slot (omega (arith, some, few)) is))

  pub behind_some : 0 < ahead → places_behind (length (names order count)) (before ahead) ≡ ahead - 1
  behind_some some = rw (before_some ahead some) refl

  pub behind_none : ahead ≡ 0 → places_behind (length (names order count)) (before ahead) ≡ count
  behind_none none = rw none (length-names order count)

  pub behind_few : ahead ≤ count → places_behind (length (names order count)) (before ahead) ≤ count
  behind_few few = grind (arith, behind_none, behind_some, cases_eq ahead 0)

  pub stepped_on : (slot : ℕ) → ahead < count → slot ≡ named order ahead → Steps On (standing (names order count) (before ahead)) (Some slot) (standing (names order count) (before (ahead + 1)))
  stepped_on slot lt is = rw (ahead_of ahead, length-names order count) (refl, (omega (arith, lt), slot_named ahead slot lt is, before_some (ahead + 1) (omega arith) ∙ ap (λ (x : ℕ). Some x) (omega arith)))

  pub stays : count ≤ ahead → Steps On (standing (names order count) (before ahead)) None (standing (names order count) (before ahead))
  stays le = rw (ahead_of ahead) (refl, (omega (arith, le, length-names order count), refl))

  pub stepped_back : (place slot : ℕ) → place ≡ places_behind (length (names order count)) (before ahead) → 0 < place → place ≤ count → slot ≡ named order (place - 1)
      → Steps Back (standing (names order count) (before ahead)) (Some slot) (standing (names order count) (before place))
  stepped_back place slot behind some few is = rw (← behind, before_some place some) (refl, (some, slot_named (place - 1) slot (omega (arith, some, few)) is, refl))

-- a step leaves fewer
pub goes_on : (way : Way) (old new : Walk) (result : Option ℕ) → Steps way old result new → MakesProgress (λ _. ⊤) (steps_left way) old result new
goes_on On old new result steps = grind (arith, slice_get_within)
goes_on Back old new result steps = grind (arith, slice_get_within)
