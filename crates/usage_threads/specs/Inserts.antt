-- Calls that were all inserts.
use Rattle.std.specs.Prelude.{◌≡◌, ℕ}
use Rattle.tree_state.specs.Tallies.{tally_of}
use Rattle.tree_state.specs.declared.tally.Tally.{Tally}

-- so many inserts were answered, and nothing else was
abbrev pub IsOfInserts : ℕ → Tally → Type 0
IsOfInserts n t = t ≡ tally_of n t.stored 0 0 0
