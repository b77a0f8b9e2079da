-- What an insert that goes into a history answers and leaves.
use Rattle.std.specs.Prelude.{◌≡◌, Result, Ok, Err}
use Rattle.std.specs.declared.cmp.Ordering.{Ordering}
use Rattle.tree_model.specs.declared.commands.Command.TheVariants.{Insert}
use Rattle.tree_model.specs.declared.commands.Reply.TheVariants as reply
use Rattle.tree_model.specs.declared.commands.InsertError.{InsertError}
use Rattle.tree_model.specs.declared.commands.InsertError.TheVariants.{Duplicate, OutOfMemory}
use Rattle.tree_model.specs.History.{Log, Appends}

-- The pair was stored, or comes back as a duplicate, and the call went into the history. Or the pair comes back for lack of memory, and nothing changed.
abbrev pub RecordsInsert : {K V A B T : Type 0} → (K → K → Ordering) → (K → A) → (V → B) → Log K V → Log K V → K → V → Result T (InsertError K V) → Type 0
RecordsInsert cmp seen_key seen old new k v (Ok _) = Appends cmp seen_key seen old new (Insert k v) reply.Stored
RecordsInsert cmp seen_key seen old new k v (Err (Duplicate key value)) = Appends cmp seen_key seen old new (Insert k v) reply.Duplicate × (key ≡ k) × (value ≡ v)
RecordsInsert cmp seen_key seen old new k v (Err (OutOfMemory key value)) = (new ≡ old) × (key ≡ k) × (value ≡ v)
