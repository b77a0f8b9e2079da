-- How the answers of a shared index are counted in the tally of a worker.
use Rattle.std.specs.Prelude.{◌≡◌, true, Result, IfOk, IfErr, OnErr}
use Rattle.tree_model.specs.declared.commands.Command.{Command}
use Rattle.tree_model.specs.declared.commands.InsertError.{InsertError}
use Rattle.tree_model.specs.declared.commands.Reply.{Reply}
use Rattle.tree_shared.specs.Replies.{is_reply_to}
use Rattle.tree_state.specs.Tallies.{raised, pair_of, reply_of_insert, reply_of_upsert}
use Rattle.tree_state.specs.declared.tally.Tally.{Tally}

-- A reply is of the command's kind, and counted. A refused command comes back, and nothing is counted.
pub record IsCounted {K V : Type 0} (command : Command K V) (answer : Result (Reply V) (Command K V)) (old new : Tally) : Type 0 where
  pub kind : IfOk answer (λ reply. is_reply_to command reply ≡ true)
  pub handed_back : IfErr answer (λ back. back ≡ command)
  pub counted : IfOk answer (λ reply. new ≡ raised old reply)
  pub uncounted : OnErr answer (new ≡ old)

-- The reply that the answer stands for is counted, and a pair that wasn't stored comes back.
pub record IsInsertCounted {K V : Type 0} (pair : K × V) (answer : Result (Unit {0}) (InsertError K V)) (old new : Tally) : Type 0 where
  pub handed_back : IfErr answer (λ e. pair_of e ≡ pair)
  pub counted : new ≡ raised {V = V} old (reply_of_insert answer)

-- An upsert is counted as stored, or the pair comes back and nothing is counted.
pub record IsUpsertCounted {K V : Type 0} (pair : K × V) (answer : Result (Unit {0}) (K × V)) (old new : Tally) : Type 0 where
  pub handed_back : IfErr answer (λ back. back ≡ pair)
  pub counted : new ≡ raised {V = V} old (reply_of_upsert answer)
