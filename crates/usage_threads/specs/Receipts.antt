-- Receipts for commands.
use Rattle.std.specs.Prelude.{◌≡◌, ℕ, List, [], ◌∷◌, ◌++◌}
use Rattle.tree_model.specs.declared.commands.Command.{Command}

-- The reader knows of a list of published commands that ends with this one.
abbrev pub IsReceipt : Command ℕ ℕ → List (List (Command ℕ ℕ)) → Type 0
IsReceipt command reader = (earlier : List (Command ℕ ℕ)) × (reader ≡ [] ∷ (earlier ++ command ∷ []) ∷ [])
