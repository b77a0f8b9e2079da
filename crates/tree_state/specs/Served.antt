-- How many writes of a run are sure to be answered.
use Rattle.std.specs.Prelude.{◌≡◌, ◌≢◌, ℕ, suc, ◌≤◌, List, ◌∷◌, ⊤}
use Rattle.tree_model.specs.declared.commands.Command.{Command}
use Rattle.tree_model.specs.declared.commands.Command.TheVariants.{Insert, Upsert, Remove, RemoveRange, Clear, Peek}
use Rattle.tree_model.specs.declared.commands.Reply.{Reply}
use Rattle.tree_model.specs.declared.commands.Reply.TheVariants.{Refused}

-- A write is refused only where no spare is left, and takes at most one.
pub record Spends {V : Type 0} (old new : ℕ) (reply : Reply V) : Type 0 where
  pub refused : reply ≡ Refused → old ≡ 0
  pub lowers : old ≤ suc new

module _ {K V : Type 0} where
  -- what a command does to the spare
  abbrev pub SpendsBy : Command K V → ℕ → ℕ → Reply V → Type 0
  SpendsBy (Insert k v) old new reply = Spends old new reply
  SpendsBy (Upsert k v) old new reply = Spends old new reply
  SpendsBy (Remove k) old new reply = ⊤
  SpendsBy (RemoveRange low high) old new reply = ⊤
  SpendsBy Clear old new reply = ⊤
  SpendsBy (Peek k) old new reply = new ≡ old

  -- Of the writes before the first command that removes, as many as were spare are not refused.
  abbrev pub AreServed : ℕ → List (Command K V) → List (Reply V) → Type 0
  AreServed (suc spare) (Insert k v ∷ commands) (reply ∷ replies) = (reply ≢ Refused) × AreServed spare commands replies
  AreServed (suc spare) (Upsert k v ∷ commands) (reply ∷ replies) = (reply ≢ Refused) × AreServed spare commands replies
  AreServed (suc spare) (Peek k ∷ commands) (reply ∷ replies) = AreServed (suc spare) commands replies
  AreServed spare commands replies = ⊤
