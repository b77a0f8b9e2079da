-- What the words of the command line request.
use Rattle.std.specs.Prelude.{◌≡◌, ◌⊎◌, true, false, ℕ, List, [], ◌∷◌, codes}
use Rattle.storetool.specs.declared.task.Policy.{Policy}
use Rattle.storetool.specs.declared.task.Policy.TheVariants.{Each, Group, Unsynced}
use Rattle.storetool.specs.declared.task.Task.{Task}
use Rattle.storetool.specs.declared.task.Task.TheVariants.{Answer, Compact, Dump, Load, Stat, Verify}

abbrev pub policy_name : Policy → List ℕ
policy_name Each = codes "each"
policy_name Group = codes "group"
policy_name Unsynced = codes "none"

-- the words behind the name of a file request this
abbrev pub AskFor : Task → List (List ℕ) → Type 0
AskFor (Answer policy false) words = ((policy ≡ Group) × (words ≡ [])) ⊎ (words ≡ codes "--sync" ∷ policy_name policy ∷ [])
AskFor (Answer policy true) words =
    ((policy ≡ Group) × (words ≡ codes "--two-syncs" ∷ []))
    ⊎ (words ≡ codes "--two-syncs" ∷ codes "--sync" ∷ policy_name policy ∷ [])
    ⊎ (words ≡ codes "--sync" ∷ policy_name policy ∷ codes "--two-syncs" ∷ [])
AskFor Compact words = words ≡ codes "compact" ∷ []
AskFor (Dump false) words = words ≡ codes "dump" ∷ []
AskFor (Dump true) words = words ≡ codes "dump" ∷ codes "--json" ∷ []
AskFor Load words = words ≡ codes "load" ∷ []
AskFor Stat words = words ≡ codes "stat" ∷ []
AskFor Verify words = words ≡ codes "verify" ∷ []
