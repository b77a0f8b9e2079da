-- The children of a node in turn, either way: which they are, and that a step takes the first of those still to come.
use Rattle.tree_parts.proofs.Common.{◌≡◌, ℕ, false, List, ◌∷◌, ◌++◌, length, take, reverse, Option, Some, None, is_some, refl, sym, ap, ◌∙◌, arith, option_to_list, append-nil, take_all}
use Rattle.tree_parts.proofs.Common.{MakesProgress, reverse-append, along, Arrivals, Back, IsOverKeyed, Walk, Way, all_children, arrival, keyed_children, length-map, next_place, standing}
use Rattle.tree_parts.proofs.Common.{IsSome, item_count, same_place, slice_get, slice_get-map, step_takes, StepsOver, to_come}

reverse-option : {X : Type 0} (x : Option X) → reverse (option_to_list x) ≡ option_to_list x
reverse-option None = refl
reverse-option (Some x) = refl

-- one child fewer is left
pub with_progress : {X : Type 0} {can : List X → Type 0} → ((xs : List X) → can xs) → (old new : List X) (x : X) → old ≡ x ∷ new
    → record { steps : old ≡ x ∷ new; goes : MakesProgress can (item_count (λ xs. xs)) old (Some x) new }
with_progress can old new x is = record { steps = is; goes = record { on = λ finite. (can new, tt, rw is (omega arith)); keeps = can new; rests = λ finite. tt } }

module _ {K X : Type 0} (keyed : Arrivals K X) where
  module _ (walk : Walk) (over : IsOverKeyed keyed walk) (place slot : ℕ) (is : slice_get walk.slots place ≡ Some slot) where
    -- a slot of the walk is that of an entry
    pub reachable_at : IsSome (arrival keyed.arrivals slot)
    reachable_at = rw (same_place (arrival keyed.arrivals) walk.slots keyed.entries over place slot is).1 refl

    -- and the child in it is the one at this place
    pub child_at : (child : X) → ((key : K) × (arrival keyed.arrivals slot ≡ Some (key, child))) → slice_get (keyed_children keyed) place ≡ Some child
    child_at child read =
        let at = same_place (arrival keyed.arrivals) walk.slots keyed.entries over place slot is in
        let both : Some at.0 ≡ Some (read.0, child) = sym at.1 ∙ read.1 in
        let this : at.0 ≡ (read.0, child) = cc in
        rw (slice_get-map (λ (c : K × X). c.1) keyed.entries place, at.2, this) refl

  -- before the first step against the order of the keys all are still to come
  pub all_back : (fresh : Walk) (slots : List ℕ) → fresh ≡ standing slots None → (unbounded : Option X)
      → to_come Back (keyed_children keyed) fresh.at unbounded None ≡ along Back (all_children keyed unbounded)
  all_back fresh slots is unbounded =
      let children : List X = keyed_children keyed in
      let at_start : fresh.at ≡ None = rw is refl in
      let all : take (length children) children ≡ children = take_all (length children) children (omega arith) in
      rw (at_start, all, append-nil (reverse children))
      (sym (reverse-append children (option_to_list unbounded) ∙ ap (λ ys. ys ++ reverse children) (reverse-option unbounded)))

  as_many : (walk : Walk) → IsOverKeyed keyed walk → length walk.slots ≡ length (keyed_children keyed)
  as_many walk over = sym (length-map walk.slots (arrival keyed.arrivals)) ∙ ap length over ∙ length-map keyed.entries Some ∙ sym (length-map keyed.entries (λ c. c.1))

  -- a step takes the child in its slot, once no child comes before the keyed ones
  pub takes_child : (way : Way) (old new : Walk) → IsOverKeyed keyed old → (first last : Option X) → is_some first ≡ false → (slot : ℕ) → StepsOver way old.slots old.at (Some slot) new.at
      → (child : X) → ((key : K) × (arrival keyed.arrivals slot ≡ Some (key, child))) → to_come way (keyed_children keyed) old.at first last ≡ child ∷ to_come way (keyed_children keyed) new.at first last
  takes_child way old new over (Some x) last none slot steps child read = absurd (cc)
  takes_child way old new over None last none slot steps child read =
      let there = child_at old over (next_place way (length old.slots) old.at) slot steps.1 child read in
      let on : StepsOver way (keyed_children keyed) old.at (Some child) new.at = rw (← as_many old over) (steps.0, there, steps.2) in
      rw (step_takes way (keyed_children keyed) old.at new.at child on) refl
