-- The slots that a walk goes through, and the entries of the leaf that it stands in.
use Rattle.std.proofs.Common.{◌≡◌, ℕ, zero, suc, List, [], ◌∷◌, map, length, slice_get, Option, Some, None, IsSome, option_and_then, option_map, refl, sym, ap, ◌∙◌, Bor, Ordering}
use Rattle.tree_model.proofs.Common.{MakesProgress, lent_entry}
use Rattle.tree_leaf.proofs.ChainCommon.{IsStand, LeafOf, LeafWalk, Slab, Steps, StepsOver, Walk, Way, arrival, first_on, here, leaf_entries, left_in_leaf, length-map, standing, stood_on}
use Rattle.tree_array.specs.Walk.{IsOver, standing as array_standing}
use Rattle.tree_leaf.proofs.Along.{fewer_left, first_taken}

-- one place of two lists of which one lists what the other names
pub same_place : {X Y : Type 0} (find : X → Option Y) (xs : List X) (ys : List Y) → map find xs ≡ map Some ys → (place : ℕ) (x : X) → slice_get xs place ≡ Some x → (y : Y) × (find x ≡ Some y) × (slice_get ys place ≡ Some y)
same_place find [] ys same place x is = absurd (cc)
same_place find (a ∷ xs) [] same place x is = absurd (cc)
same_place find (a ∷ xs) (y ∷ ys) same zero x is = let this : x ≡ a = cc in (y, rw this (cc), refl)
same_place find (a ∷ xs) (y ∷ ys) same (suc place) x is = let rest : map find xs ≡ map Some ys = cc in same_place find xs ys rest place x is

at_place : {X : Type 0} (xs : List X) (at : Option ℕ) (x : X) → option_and_then (slice_get xs) at ≡ Some x
    → (place : ℕ) × (at ≡ Some place) × (slice_get xs place ≡ Some x)
at_place xs None x is = absurd (cc)
at_place xs (Some place) x is = (place, refl, is)

module _ {K V : Type 0} {LEN : ℕ} (leaves : Slab (LeafOf K V LEN)) (id : ℕ) (leaf : LeafOf K V LEN) (slots : Walk) (stand : IsStand leaves id leaf slots) where
  pub entries_here : leaf_entries leaves id ≡ leaf.array.entries
  entries_here = rw stand.there refl

  -- the slots may stand at another place
  pub stand_over : (other : Walk) → map (arrival leaf.array.arrivals) other.slots ≡ map Some leaf.array.entries → IsStand leaves id leaf other
  stand_over other are = record { there = stand.there; front = stand.front; back = stand.back; chain = stand.chain; slots_are = are }

  -- there are as many slots as entries
  as_many : length slots.slots ≡ length (leaf_entries leaves id)
  as_many = rw entries_here (sym (length-map slots.slots (arrival leaf.array.arrivals)) ∙ ap length stand.slots_are ∙ length-map leaf.array.entries Some)

  module _ (place slot : ℕ) (is : slice_get slots.slots place ≡ Some slot) where
    -- the slot at a place is that of the entry at this place
    entry_at : (entry : K × V) × (arrival leaf.array.arrivals slot ≡ Some entry) × (slice_get (leaf_entries leaves id) place ≡ Some entry)
    entry_at = rw entries_here (same_place (arrival leaf.array.arrivals) slots.slots leaf.array.entries stand.slots_are place slot is)

    pub slot_reachable : IsSome (arrival leaf.array.arrivals slot)
    slot_reachable = rw entry_at.1 refl

    -- what is read from it is that entry
    entry_read : (read : K × V) → arrival leaf.array.arrivals slot ≡ Some read → slice_get (leaf_entries leaves id) place ≡ Some read
    entry_read read found = entry_at.2 ∙ sym entry_at.1 ∙ found

  -- the entry that the walk stands on, read from its slot
  module _ (slot : ℕ) (is : option_and_then (slice_get slots.slots) slots.at ≡ Some slot) where
    pub stood_reachable : IsSome (arrival leaf.array.arrivals slot)
    stood_reachable = let at = at_place slots.slots slots.at slot is in slot_reachable at.0 slot at.2

    pub stood_read : (read : K × V) → arrival leaf.array.arrivals slot ≡ Some read → Some read ≡ stood_on (standing leaves id slots.at)
    stood_read read found = let at = at_place slots.slots slots.at slot is in rw at.1 (sym (entry_read at.0 slot at.2 read found))

  -- a step through the slots is one through the entries, to the entry that is read from the slot
  pub step_read : (way : Way) (new : Option ℕ) (slot : ℕ) (read : K × V) → StepsOver way slots.slots slots.at (Some slot) new → arrival leaf.array.arrivals slot ≡ Some read → StepsOver way (leaf_entries leaves id) slots.at (Some read) new
  step_read way new slot read steps found = let there = entry_read _ slot steps.1 read found in rw (← as_many) (steps.0, there, steps.2)

  pub none_read : (way : Way) (new : Option ℕ) → StepsOver way slots.slots slots.at None new → StepsOver way (leaf_entries leaves id) slots.at None new
  none_read way new steps = rw (← as_many) steps

  -- a walk over all slots that has not begun
  pub all_slots : {cmp : K → K → Ordering} {len : ℕ} (all : Walk) (named : List ℕ) → all ≡ array_standing named None → IsOver cmp len leaf.array all → IsStand leaves id leaf all × (all.at ≡ None)
  all_slots all named fresh over = let at : all.at ≡ None = rw fresh refl in (stand_over all (rw at at over.slots), at)

module _ {K V : Type 0} {LEN : ℕ} (leaves : Slab (LeafOf K V LEN)) (id : ℕ) (leaf : LeafOf K V LEN) (all : Walk) (stand : IsStand leaves id leaf all)
    (fresh : all.at ≡ None) (way : Way) (new : Option ℕ) where
  -- the first step from before the first slot reads the entry that comes first on the way, and there is none where the leaf has no entry
  pub first_read : (slot : ℕ) (read : K × V) → StepsOver way all.slots all.at (Some slot) new → arrival leaf.array.arrivals slot ≡ Some read → Some read.0 ≡ option_map (λ entry. entry.0) (first_on way (leaf_entries leaves id))
  first_read slot read steps found = ap (option_map (λ entry. entry.0)) (first_taken way _ (Some read) new (rw fresh at (step_read leaves id leaf all stand way new slot read steps found))).0

  pub none_first : {X : Type 0} (key : K × V → X) → StepsOver way all.slots all.at None new → None ≡ option_map key (first_on way (leaf_entries leaves id))
  none_first key steps = ap (option_map key) (first_taken way _ None new (rw fresh at (none_read leaves id leaf all stand way new steps))).0

-- each step leaves fewer
pub with_progress : {K V : Type 0} {LEN : ℕ} {can : LeafWalk K V LEN → Type 0} → ((walk : LeafWalk K V LEN) → can walk) → (way : Way) (s t : LeafWalk K V LEN) (r : Option (Bor K × Bor V))
    → Steps way s r t → record { steps : Steps way s r t; goes : MakesProgress can (left_in_leaf way) s r t }
with_progress can way s t None steps = record { steps = steps; goes = record { on = λ finite. tt; keeps = tt; rests = λ finite. tt } }
with_progress can way s t (Some entry) steps =
    record { steps = steps; goes = record { on = λ finite. (can t, tt, rw steps.0 (fewer_left way (here s) s.at t.at (lent_entry entry) steps.1)); keeps = can t; rests = λ finite. tt } }
