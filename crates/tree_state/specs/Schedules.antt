-- A schedule of several workers' commands, run by one thread. Each entry leaves a record, or none where it was refused.
use Rattle.std.specs.Prelude.{◌≡◌, ℕ, ◌+◌, ◌^◌, ◌<◌, ◌==◌, List, [], ◌∷◌, ◌++◌, length, count_by, Option, Some, None, is_none, slice_index_or, if◌then◌else◌}
use Rattle.std.specs.declared.cmp.Ordering.{Ordering}
use Rattle.tree_model.specs.declared.commands.Command.{Command}
use Rattle.tree_model.specs.declared.commands.Reply.{Reply}
use Rattle.tree_model.specs.declared.commands.Record.{Record}
use Rattle.tree_model.specs.Runs.{Step}
use Rattle.tree_model.specs.History.{Log, IsAnswered, IsSameCommand, IsSameReply}
use Rattle.tree_state.specs.declared.tally.Tally.{Tally}
use Rattle.tree_state.specs.Ledgers.{Fits}
use Rattle.tree_state.specs.Tallies.{none, plus, tally}

-- the records, in order
abbrev pub records : {K V : Type 0} → List (Option (Record K V)) → List (Record K V)
records [] = []
records (None ∷ ks) = records ks
records (Some k ∷ ks) = k ∷ records ks

-- the records of one worker, in order
abbrev pub records_of : {K V : Type 0} → ℕ → List (ℕ × Command K V) → List (Option (Record K V)) → List (Record K V)
records_of worker [] ks = []
records_of worker (s ∷ ss) [] = []
records_of worker (s ∷ ss) (None ∷ ks) = records_of worker ss ks
records_of worker (s ∷ ss) (Some k ∷ ks) = if s.0 == worker then k ∷ records_of worker ss ks else records_of worker ss ks

-- each number of the tally has room for so many more
abbrev pub HasRoom : ℕ → Tally → Type 0
HasRoom more t = (t.calls + more < 2 ^ 64) × (t.stored + more < 2 ^ 64) × (t.removed + more < 2 ^ 64) × (t.found + more < 2 ^ 64) × (t.done + more < 2 ^ 64)

module _ {K V A B : Type 0} (cmp : K → K → Ordering) (seen_key : K → A) (seen : V → B) where
  -- From old, the schedule may leave these records and end at new: a command with a record was answered as the list gives, and both are kept; one without was refused, and changed nothing.
  abbrev pub RunsSchedule : List (K × V) → List (ℕ × Command K V) → List (Option (Record K V)) → List (K × V) → Type 0
  RunsSchedule old [] [] new = new ≡ old
  RunsSchedule old (s ∷ ss) (None ∷ ks) new = RunsSchedule old ss ks new
  RunsSchedule old (s ∷ ss) (Some k ∷ ks) new = (mid : List (K × V)) × (reply : Reply V) × Step cmp seen old s.1 reply mid × IsAnswered reply × IsSameCommand cmp seen_key seen s.1 k.command × IsSameReply cmp seen_key seen reply k.reply × RunsSchedule mid ss ks new
  RunsSchedule old [] (k ∷ ks) new = ⊥
  RunsSchedule old (s ∷ ss) [] new = ⊥

  -- no number of a tally is too large, however the schedule runs
  abbrev pub FitsEachRun : List (K × V) → List (ℕ × Command K V) → List Tally → Type 0
  FitsEachRun old schedule tallies = (worker : ℕ) → worker < length tallies → (kept : List (Option (Record K V))) (new : List (K × V)) → RunsSchedule old schedule kept new → Fits (plus (slice_index_or tallies worker none) (tally (records_of worker schedule kept)))

  -- The schedule ran. Its records were appended, as many commands were refused, and each worker's tally rose by that of its own records.
  pub record Ran (schedule : List (ℕ × Command K V)) (old : Log K V) (tallies : List Tally) (new : Log K V) (raised_tallies : List Tally) (refused : ℕ) : Type 0 where
    pub kept : List (Option (Record K V))
    pub runs : RunsSchedule old.pairs schedule kept new.pairs
    pub appended : new.history ≡ old.history ++ records kept
    pub taken_out : refused ≡ count_by is_none kept
    pub tallied : (worker : ℕ) → worker < length tallies → slice_index_or raised_tallies worker none ≡ plus (slice_index_or tallies worker none) (tally (records_of worker schedule kept))
