-- The storm: its arguments, and what it writes.
use Rattle.std.specs.Prelude.{◌≡◌, ◌≢◌, ◌⊎◌, ℕ, ◌-◌, ◌*◌, ◌^◌, ◌≤◌, min, List, [], ◌∷◌, ◌++◌, length, Option, Some, None, codes, decimal}
use Rattle.std.specs.Io.KnownBytes.{Appends}
use Rattle.std.specs.Ordering.{nat_cmp}
use Rattle.tree_model.specs.History.{IsHistoryOf}
use Rattle.tree_model.specs.declared.commands.Record.{Record}
use Rattle.tree_state.specs.Tallies.{tally}
use Rattle.tree_lines.specs.Spelling.{with_feed}
use Rattle.tree_lines.specs.Writing.{IsFront}
use Rattle.tree_shared.specs.Workers.{OnlyInserts}

-- so many workers, and so many pairs for each
abbrev pub IsStorm : ℕ × ℕ → Type 0
IsStorm storm = (1 ≤ storm.0) × (storm.0 ≤ 64) × (storm.1 ≤ 100000)

-- the arguments of a storm
abbrev pub storm_words : ℕ × ℕ → List (List ℕ)
storm_words storm = codes "storm" ∷ decimal storm.0 ∷ decimal storm.1 ∷ []

-- The arguments ask for this storm, or for none.
abbrev pub AsksForStorm : List (List ℕ) → Option (ℕ × ℕ) → Type 0
AsksForStorm words (Some storm) = IsStorm storm × (words ≡ storm_words storm)
AsksForStorm words None = (storm : ℕ × ℕ) → IsStorm storm → words ≢ storm_words storm

-- the line of a storm, with its line feed
abbrev pub storm_line : ℕ → ℕ → ℕ → List ℕ
storm_line calls stored length =
    (codes "calls " ++ decimal calls) ++ ((codes " stored " ++ decimal stored) ++ ((codes " length " ++ decimal length) ++ 10 ∷ []))

-- the line of an index that was closed with this history: the history's tally, and how many pairs there are
abbrev pub line_of : List (Record ℕ ℕ) → List (ℕ × ℕ) → List ℕ
line_of history pairs = storm_line (tally history).calls (tally history).stored (min (length pairs) (2 ^ 64 - 1))

abbrev pub refused_line : List ℕ
refused_line = with_feed (codes "refused")

-- A storm may close with this history: it replays to the pairs, and nothing but inserts was answered, at most one for each worker and pair.
abbrev pub MayClose : ℕ × ℕ → List (Record ℕ ℕ) → List (ℕ × ℕ) → Type 0
MayClose storm history pairs = IsHistoryOf nat_cmp (λ n. n) (λ n. n) history pairs × OnlyInserts (storm.0 * storm.1) (tally history)

-- what a storm has to write, with its status
abbrev pub EndsStorm : ℕ × ℕ → List ℕ → ℕ → Type 0
EndsStorm storm text status =
    ((history : List (Record ℕ ℕ)) × (pairs : List (ℕ × ℕ)) × MayClose storm history pairs × (text ≡ line_of history pairs) × (status ≡ 0))
    ⊎ ((text ≡ refused_line) × (status ≡ 3))

-- The text was written, and its status returned; or a part of it was written, and the status is 2.
abbrev pub WritesEnd : List ℕ → ℕ → Option (List ℕ) → Option (List ℕ) → ℕ → Type 0
WritesEnd text status contents contents' result =
    (Appends contents contents' text × (result ≡ status))
    ⊎ ((part : List ℕ) × Appends contents contents' part × IsFront part text × (result ≡ 2))

-- A storm was run, and its end written.
abbrev pub RunsStorm : ℕ × ℕ → Option (List ℕ) → Option (List ℕ) → ℕ → Type 0
RunsStorm storm contents contents' result =
    (text : List ℕ) × (status : ℕ) × EndsStorm storm text status × WritesEnd text status contents contents' result
