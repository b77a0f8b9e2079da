-- What commands leave of an index.
use Rattle.std.specs.Prelude.{◌≡◌, ℕ, List, [], map, fold, Option, None, Some}
use Rattle.std.specs.declared.cmp.Ordering.{Ordering}
use Rattle.tree_model.specs.declared.commands.Command.{Command}
use Rattle.tree_model.specs.declared.commands.Command.TheVariants.{Insert, Upsert, Remove, RemoveRange, Clear, Peek}
use Rattle.tree_model.specs.declared.commands.Record.{Record}
use Rattle.tree_model.specs.declared.commands.Reply.{Reply}
use Rattle.std.specs.Ordering.{nat_cmp}
use Rattle.tree_model.specs.History.{IsAnswered, IsHistoryOf, IsSamePairs}
use Rattle.tree_model.specs.Runs.{Step}
use Rattle.tree_model.specs.Pairs.{pair_at, put, without, cut}

-- a copy of the index: its pairs, and the commands that it took in
pub record Front (K V : Type 0) : Type 0 where
  pub pairs : List (K × V)
  pub commands : List (Command K V)

-- The commands have replies with which they are a history of the pairs.
pub record IsFront {K V A B : Type 0} (cmp : K → K → Ordering) (seen_key : K → A) (seen : V → B) (commands : List (Command K V)) (pairs : List (K × V)) : Type 0 where
  pub history : List (Record K V)
  pub same : map (λ r. r.command) history ≡ commands
  pub answers : IsHistoryOf cmp seen_key seen history pairs

-- The command has a reply with which it leads from the old pairs to the new ones.
pub record Does {K V B : Type 0} (cmp : K → K → Ordering) (seen : V → B) (old : List (K × V)) (command : Command K V) (new : List (K × V)) : Type 0 where
  pub reply : Reply V
  pub answered : IsAnswered reply
  pub step : Step cmp seen old command reply new

module _ {K V : Type 0} (cmp : K → K → Ordering) where
  -- l with the pair, unless its key is present
  abbrev pub inserted : List (K × V) → K → V → List (K × V)
  inserted l k v = pick (pair_at cmp l k)
    where
      pick : Option (K × V) → List (K × V)
      pick None = put cmp l k v
      pick (Some pair) = l

  -- the list after a command
  abbrev pub done : List (K × V) → Command K V → List (K × V)
  done l (Insert k v) = inserted l k v
  done l (Upsert k v) = put cmp l k v
  done l (Remove k) = without cmp l k
  done l (RemoveRange low high) = cut cmp l low high
  done l Clear = []
  done l (Peek k) = l

  -- the list after all of the commands
  abbrev pub after : List (Command K V) → List (K × V)
  after commands = fold done [] commands

-- pairs of unsigned numbers that are clones of others are these
abbrev pub SameNumbers : Type 0
SameNumbers = (pairs others : List (ℕ × ℕ)) → IsSamePairs nat_cmp (λ n. n) (λ n. n) pairs others → pairs ≡ others
