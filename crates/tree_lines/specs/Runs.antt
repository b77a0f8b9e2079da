-- Runs over the lines of an input.
use Rattle.std.specs.Prelude.{◌≡◌, ℕ, List, ◌++◌, Option, Result, Ok, Err}
use Rattle.std.specs.Io.KnownBytes.{Appends, Consumes, IsAtEnd}
use Rattle.tree_lines.specs.declared.lines.ToolFault.{ToolFault}
use Rattle.tree_lines.specs.declared.lines.ToolFault.TheVariants.{Read, Write}
use Rattle.tree_lines.specs.Spelling.{text_of, HasLines, last_line}
use Rattle.tree_lines.specs.Lines.{Script}
use Rattle.tree_lines.specs.Progress.{BrokeOff}

-- What a run over lines read and wrote.
-- Ok: the input is at its end, and all lines were answered.
-- Read: all lines that a line feed ended were answered, and nothing else was applied.
-- Write: the first lines were answered, up to one whose answer broke off.
abbrev pub RunsLines : {T : Type 0} → ℕ → List (ℕ × ℕ) → List (ℕ × ℕ) → Option (List ℕ) → Option (List ℕ) → Option (List ℕ) → Option (List ℕ) → Result T ToolFault → Type 0
RunsLines LEN old new remaining remaining' contents contents' (Ok _) =
    (read written : List ℕ) × Consumes remaining remaining' read × Appends contents contents' written × IsAtEnd remaining'
    × (ended answers : List (List ℕ)) × (rest : List ℕ) × HasLines read ended rest × Script LEN old (ended ++ last_line rest) answers new × (written ≡ text_of answers)
RunsLines LEN old new remaining remaining' contents contents' (Err Read) =
    (read written : List ℕ) × Consumes remaining remaining' read × Appends contents contents' written
    × (ended answers : List (List ℕ)) × (rest : List ℕ) × HasLines read ended rest × Script LEN old ended answers new × (written ≡ text_of answers)
RunsLines LEN old new remaining remaining' contents contents' (Err Write) =
    (read written : List ℕ) × Consumes remaining remaining' read × Appends contents contents' written × BrokeOff LEN (IsAtEnd remaining') read old written new
