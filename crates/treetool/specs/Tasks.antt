-- What arguments ask for.
use Rattle.std.specs.Prelude.{◌≡◌, ◌≢◌, ℕ, List, [], ◌∷◌, Option, Some, None, ⊤, codes}
use Rattle.treetool.specs.declared.task.Task.{Task}
use Rattle.treetool.specs.declared.task.Task.TheVariants.{Lines, SmallLines, Storm}
use Rattle.treetool.specs.Storm.{IsStorm, storm_words}

-- the arguments that ask for an index of seven pairs a leaf
abbrev pub small_words : List (List ℕ)
small_words = codes "--small" ∷ []

-- the arguments that ask for a task
abbrev pub task_words : Task → List (List ℕ)
task_words Lines = []
task_words SmallLines = small_words
task_words (Storm workers pairs) = storm_words (workers, pairs)

-- the numbers of a task are in range
abbrev pub IsTask : Task → Type 0
IsTask Lines = ⊤
IsTask SmallLines = ⊤
IsTask (Storm workers pairs) = IsStorm (workers, pairs)

-- The arguments ask for this task, or for none.
abbrev pub AsksFor : List (List ℕ) → Option Task → Type 0
AsksFor words (Some task) = IsTask task × (words ≡ task_words task)
AsksFor words None = (task : Task) → IsTask task → words ≢ task_words task
