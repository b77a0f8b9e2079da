-- What calls came to, in numbers, and what a reply adds to them.
use Rattle.std.specs.Prelude.{ℕ, ◌+◌, Bool, true, false, cond, List, length, sum_by, count_by, Option, Some, None, Result, Ok, Err}
use Rattle.tree_model.specs.declared.commands.Reply.{Reply}
use Rattle.tree_model.specs.declared.commands.Reply.TheVariants.{Stored, Duplicate, Removed, Done, Found, Refused}
use Rattle.tree_model.specs.declared.commands.Record.{Record}
use Rattle.tree_model.specs.declared.commands.InsertError.{InsertError}
use Rattle.tree_model.specs.declared.commands.InsertError.TheVariants as fault
use Rattle.tree_state.specs.declared.tally.Tally.{Tally}

abbrev pub is_refused : {V : Type 0} → Reply V → Bool
is_refused Refused = true
is_refused _ = false

abbrev pub is_stored : {V : Type 0} → Reply V → Bool
is_stored Stored = true
is_stored _ = false

abbrev pub is_removed : {V : Type 0} → Reply V → Bool
is_removed (Removed was) = was
is_removed _ = false

abbrev pub is_found : {V : Type 0} → Reply V → Bool
is_found (Found (Some v)) = true
is_found _ = false

abbrev pub found_value : {V : Type 0} → Reply V → Option V
found_value (Found found) = found
found_value _ = None

abbrev pub is_done : {V : Type 0} → Reply V → Bool
is_done Done = true
is_done _ = false

abbrev pub tally_of : ℕ → ℕ → ℕ → ℕ → ℕ → Tally
tally_of calls stored removed found done =
    record { calls = calls; stored = stored; removed = removed; found = found; done = done }

abbrev pub none : Tally
none = tally_of 0 0 0 0 0

abbrev pub plus : Tally → Tally → Tally
plus t u =
    tally_of (t.calls + u.calls) (t.stored + u.stored) (t.removed + u.removed) (t.found + u.found) (t.done + u.done)

-- the tallies of several passes together
abbrev pub sum_of : List Tally → Tally
sum_of ts =
    tally_of
    (sum_by (λ t. t.calls) ts)
    (sum_by (λ t. t.stored) ts)
    (sum_by (λ t. t.removed) ts)
    (sum_by (λ t. t.found) ts)
    (sum_by (λ t. t.done) ts)

-- of a history: its length, and how many of its replies are Stored, Removed(true), Found of a value and Done
abbrev pub tally : {K V : Type 0} → List (Record K V) → Tally
tally history =
    tally_of
    (length history)
    (count_by (λ r. is_stored r.reply) history)
    (count_by (λ r. is_removed r.reply) history)
    (count_by (λ r. is_found r.reply) history)
    (count_by (λ r. is_done r.reply) history)

-- the tally after one more reply: a refusal raises nothing
abbrev pub raised : {V : Type 0} → Tally → Reply V → Tally
raised t r =
    tally_of
    (t.calls + cond (is_refused r) 0 1)
    (t.stored + cond (is_stored r) 1 0)
    (t.removed + cond (is_removed r) 1 0)
    (t.found + cond (is_found r) 1 0)
    (t.done + cond (is_done r) 1 0)

-- the reply that the answer of a shared call stands for
abbrev pub reply_of_insert : {K V : Type 0} → Result (Unit {0}) (InsertError K V) → Reply V
reply_of_insert (Ok _) = Stored
reply_of_insert (Err (fault.Duplicate k v)) = Duplicate
reply_of_insert (Err (fault.OutOfMemory k v)) = Refused

abbrev pub reply_of_upsert : {V E : Type 0} → Result (Unit {0}) E → Reply V
reply_of_upsert (Ok _) = Stored
reply_of_upsert (Err _) = Refused

abbrev pub reply_of_remove : {V E : Type 0} → Result Bool E → Reply V
reply_of_remove (Ok was) = Removed was
reply_of_remove (Err _) = Refused

-- of `remove_range` and `clear`
abbrev pub reply_of_removal : {V E : Type 0} → Result (Unit {0}) E → Reply V
reply_of_removal (Ok _) = Done
reply_of_removal (Err _) = Refused

abbrev pub reply_of_peek : {V E : Type 0} → Result (Option V) E → Reply V
reply_of_peek (Ok found) = Found found
reply_of_peek (Err _) = Refused

-- of `State::apply`
abbrev pub reply_of_apply : {V E : Type 0} → Result (Reply V) E → Reply V
reply_of_apply (Ok reply) = reply
reply_of_apply (Err _) = Refused

-- the pair that an insert returns
abbrev pub pair_of : {K V : Type 0} → InsertError K V → K × V
pair_of (fault.Duplicate k v) = (k, v)
pair_of (fault.OutOfMemory k v) = (k, v)
