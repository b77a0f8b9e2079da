-- What contracts see of a writer, and what its calls change.
use Rattle.std.specs.Prelude.{◌≡◌, ℕ, ◌+◌, List, [], ◌∷◌, ◌++◌, Result, MatchResult}
use Rattle.tree_model.specs.declared.commands.Command.{Command}

-- the commands whose pairs readers see, those that wait for the next call of `publish`, and how many times readers were shown another copy
pub record WriterView (K V : Type 0) : Type 0 where
  pub published : List (Command K V)
  pub pending : List (Command K V)
  pub shows : ℕ

module _ {K V : Type 0} where
  -- nothing is published or pending that wasn't, and nothing was shown
  abbrev pub IsUnchanged : WriterView K V → WriterView K V → Type 0
  IsUnchanged old new = (new.published ≡ old.published) × (new.pending ≡ old.pending) × (new.shows ≡ old.shows)

  -- these commands are pending too, behind the others
  abbrev pub Awaits : WriterView K V → List (Command K V) → WriterView K V → Type 0
  Awaits old commands new = (new.published ≡ old.published) × (new.pending ≡ old.pending ++ commands) × (new.shows ≡ old.shows)

  -- The command is pending, or it is returned and nothing changed.
  abbrev pub AwaitsOne : WriterView K V → Command K V → Result (Unit {0}) (Command K V) → WriterView K V → Type 0
  AwaitsOne old command result new = MatchResult result (λ _. Awaits old (command ∷ []) new) (λ back. (back ≡ command) × IsUnchanged old new)

  -- all that was pending is published, and was shown at once
  abbrev pub Publishes : WriterView K V → WriterView K V → Type 0
  Publishes old new = (new.published ≡ old.published ++ old.pending) × (new.pending ≡ []) × (new.shows ≡ old.shows + 1)

  -- all that was pending is published, and both copies were shown
  abbrev pub Flushes : WriterView K V → WriterView K V → Type 0
  Flushes old new = (new.published ≡ old.published ++ old.pending) × (new.pending ≡ []) × (new.shows ≡ old.shows + 2)
