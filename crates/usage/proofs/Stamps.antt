-- Events before a time, and the first and the last one of a list.
use Rattle.std.proofs.Common.{◌≡◌, ◌++◌, ◌==◌, ℕ, Bool, true, false, cond, List, [], ◌∷◌, filter, Option, Some, None, Bor, refl, ap, ◌∙◌, arith, is_lt, nat_cmp, nat_lt, Ordering, Less, Equal, Greater}
use Rattle.std.specs.Iterator.{YieldsFirstRef, YieldsLastRef}
use Rattle.std.specs.Option.{option_copied}
use Rattle.std.specs.Ordering.{ordering_then}
use Rattle.tree_leaf.specs.Walks.{first_of, last_of}
use Rattle.tree_model.proofs.Lists.{filter_same}
use Rattle.tree_set.proofs.Bounded.{last_more}
use Rattle.usage.specs.Events.{earlier}
use Rattle.usage.specs.declared.events.Stamp.{Stamp}

last_pushed : {X : Type 0} (front : List X) (x : X) → last_of (front ++ x ∷ []) ≡ Some x
last_pushed [] x = refl
last_pushed (y ∷ []) x = refl
last_pushed (y ∷ z ∷ front) x = last_more y z (front ++ x ∷ []) ∙ last_pushed (z ∷ front) x

-- what the front of a walk gives is the first one that is left
pub first_given : {X : Type 0} (s t : List X) (r : Option (Bor X)) → YieldsFirstRef (λ l. l) s r t → option_copied r ≡ first_of s
first_given s t None gave = rw gave.0 refl
first_given s t (Some x) gave = rw gave refl

-- what the back of a walk gives is the last one that is left
pub last_given : {X : Type 0} (s t : List X) (r : Option (Bor X)) → YieldsLastRef (λ l. l) s r t → option_copied r ≡ last_of s
last_given s t None gave = rw gave.0 refl
last_given s t (Some x) gave = rw (gave, last_pushed t x.now) refl

-- a stamp is below the first of a time if its time is smaller
not_below_zero : (n : ℕ) → is_lt (nat_cmp n 0) ≡ false
not_below_zero n = grind arith

below_by : (less same : Bool) (o : Ordering) → is_lt o ≡ false → is_lt (ordering_then (cond less Less (cond same Equal Greater)) o) ≡ less
below_by true same o h = refl
below_by false true o h = h
below_by false false o h = refl

below_first : (time : ℕ) (event : Stamp) → is_lt (ordering_then (nat_cmp event.time time) (nat_cmp event.source 0)) ≡ nat_lt event.time time
below_first time event = below_by (nat_lt event.time time) (event.time == time) (nat_cmp event.source 0) (not_below_zero event.source)

pub are_earlier : (time : ℕ) (events : List Stamp) → filter (λ event. is_lt (ordering_then (nat_cmp event.time time) (nat_cmp event.source 0))) events ≡ earlier time events
are_earlier time events = filter_same _ _ (below_first time) events
