-- What an answered request makes of the state under the lock.
use Rattle.std.specs.Prelude.{◌≡◌, Result, IfOk, OnErr}
use Rattle.std.specs.declared.cmp.Ordering.{Ordering}
use Rattle.tree_model.specs.declared.commands.Command.{Command}
use Rattle.tree_model.specs.declared.commands.Command.TheVariants.{Upsert}
use Rattle.tree_model.specs.declared.commands.Reply.{Reply}
use Rattle.tree_model.specs.declared.commands.Reply.TheVariants.{Stored}
use Rattle.tree_model.specs.History.{Log, Appends}

module _ {K V A B : Type 0} (cmp : K → K → Ordering) (seen_key : K → A) (seen : V → B) (old new : Log K V) where
  -- The command was answered, and went into the history with its reply. A refused one changed nothing.
  pub record RecordsCommand (command : Command K V) (answer : Result (Reply V) (Command K V)) : Type 0 where
    pub ok : IfOk answer (Appends cmp seen_key seen old new command)
    pub err : OnErr answer (new ≡ old)

  -- The same of an upsert.
  pub record RecordsUpsert (pair : K × V) (answer : Result (Unit {0}) (K × V)) : Type 0 where
    pub ok : IfOk answer (λ _. Appends cmp seen_key seen old new (Upsert pair.0 pair.1) Stored)
    pub err : OnErr answer (new ≡ old)
