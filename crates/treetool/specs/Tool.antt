-- The program: its exit status, and the effect on its streams.
use Rattle.std.specs.Prelude.{◌≡◌, ◌⊎◌, ℕ, List, [], Option, Result, Ok, Err, codes}
use Rattle.std.specs.Io.KnownBytes.{Appends}
use Rattle.tree_lines.specs.declared.lines.ToolFault.{ToolFault}
use Rattle.tree_lines.specs.Spelling.{with_feed}
use Rattle.tree_lines.specs.Writing.{IsFront}
use Rattle.tree_lines.specs.Runs.{RunsLines}

abbrev pub usage_line : List ℕ
usage_line = with_feed (codes "usage: treetool [--small | storm W N]")

-- With other arguments the usage line was written, or a prefix of it if a write failed, and the status is 1.
abbrev pub RefusesArguments : Option (List ℕ) → Option (List ℕ) → ℕ → Type 0
RefusesArguments contents contents' status =
    (written : List ℕ) × Appends contents contents' written × ((written ≡ usage_line) ⊎ IsFront written usage_line) × (status ≡ 1)

-- the status of a run over lines
abbrev pub status_of : {T : Type 0} → Result T ToolFault → ℕ
status_of (Ok _) = 0
status_of (Err _) = 2

-- The lines of the input were answered over an index that was empty, with up to `LEN` pairs a leaf.
abbrev pub AnswersLines : ℕ → Option (List ℕ) → Option (List ℕ) → Option (List ℕ) → Option (List ℕ) → ℕ → Type 0
AnswersLines LEN remaining remaining' contents contents' status =
    (outcome : Result (Unit {0}) ToolFault) × (entries : List (ℕ × ℕ)) × RunsLines LEN [] entries remaining remaining' contents contents' outcome × (status ≡ status_of outcome)
