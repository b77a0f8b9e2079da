-- What five ledgers count.
use Rattle.std.specs.Prelude.{ℕ, ◌+◌, ◌^◌, ◌<◌, ◌≡◌}
use Rattle.std.specs.declared.sync.ledger.Blank.{Blank}
use Rattle.tree_state.specs.declared.tally.Tally.{Tally}

-- so many parts of each ledger are here, and count `kept`; all parts count `totals`
pub record Standing : Type 0 where
  pub parts : ℕ
  pub kept : Tally
  pub totals : Tally

abbrev pub standing : ℕ → Tally → Tally → Standing
standing parts kept totals = record { parts = parts; kept = kept; totals = totals }

-- no number is too large for its type
abbrev pub Fits : Tally → Type 0
Fits t = (t.calls < 2 ^ 64) × (t.stored < 2 ^ 64) × (t.removed < 2 ^ 64) × (t.found < 2 ^ 64) × (t.done < 2 ^ 64)

-- the name of a ledger, and how many parts it has
pub record Named : Type 0 where
  pub name : ℕ
  pub parts : ℕ

abbrev pub named : Blank → Named
named blank = record { name = blank.name; parts = blank.parts }

-- a blank of this ledger, with a part for each worker and one more
abbrev pub IsBlankFor : ℕ → Blank → ℕ → ℕ → Type 0
IsBlankFor workers blank name parts = (blank.name ≡ name) × (blank.parts ≡ parts) × (blank.parts ≡ workers + 1)
