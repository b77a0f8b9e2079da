-- A history of commands with their replies, and the list of pairs that it replays to. A history keeps clones: `seen_key` and `seen` are what contracts see of a key and of a value.
use Rattle.std.specs.Prelude.{◌≡◌, List, [], ◌∷◌, ◌++◌, ⊤, option_map}
use Rattle.std.specs.declared.cmp.Ordering.{Ordering}
use Rattle.std.specs.declared.cmp.Ordering.TheVariants.{Equal}
use Rattle.std.specs.declared.ops.Bound.{Bound}
use Rattle.std.specs.declared.ops.Bound.TheVariants.{Included, Excluded, Unbounded}
use Rattle.tree_model.specs.declared.commands.Command.{Command}
use Rattle.tree_model.specs.declared.commands.Command.TheVariants.{Insert, Upsert, Remove, RemoveRange, Clear, Peek}
use Rattle.tree_model.specs.declared.commands.Reply.{Reply}
use Rattle.tree_model.specs.declared.commands.Reply.TheVariants.{Stored, Duplicate, Removed, Done, Found, Refused}
use Rattle.tree_model.specs.declared.commands.Record.{Record}
use Rattle.tree_model.specs.Runs.{Step}

-- an index and its history
pub record Log (K V : Type 0) : Type 0 where
  pub pairs : List (K × V)
  pub history : List (Record K V)

-- the command took effect
abbrev pub IsAnswered : {V : Type 0} → Reply V → Type 0
IsAnswered Stored = ⊤
IsAnswered Duplicate = ⊤
IsAnswered (Removed was) = ⊤
IsAnswered Done = ⊤
IsAnswered (Found found) = ⊤
IsAnswered Refused = ⊥

-- From old, the history's commands are answered by its replies, none of them Refused, and leave new.
abbrev pub Replays : {K V S : Type 0} → (K → K → Ordering) → (V → S) → List (K × V) → List (Record K V) → List (K × V) → Type 0
Replays cmp seen old [] new = new ≡ old
Replays {K} {V} cmp seen old (record_ ∷ records) new = (mid : List (K × V)) × IsAnswered record_.reply × Step cmp seen old record_.command record_.reply mid × Replays cmp seen mid records new

-- k is the key or a clone of it: it compares equal and is seen the same
pub record IsSameKey {K A : Type 0} (cmp : K → K → Ordering) (seen_key : K → A) (key k : K) : Type 0 where
  pub equal : cmp key k ≡ Equal
  pub alike : seen_key key ≡ seen_key k

-- bounds of one kind at one key
abbrev pub IsSameBound : {K A : Type 0} → (K → K → Ordering) → (K → A) → Bound K → Bound K → Type 0
IsSameBound cmp seen_key (Included key) (Included k) = IsSameKey cmp seen_key key k
IsSameBound cmp seen_key (Excluded key) (Excluded k) = IsSameKey cmp seen_key key k
IsSameBound cmp seen_key Unbounded Unbounded = ⊤
IsSameBound cmp seen_key _ _ = ⊥

module _ {K V A B : Type 0} (cmp : K → K → Ordering) (seen_key : K → A) (seen : V → B) where
  abbrev pub IsSamePairs : List (K × V) → List (K × V) → Type 0
  IsSamePairs [] [] = ⊤
  IsSamePairs (p ∷ ps) (q ∷ qs) = IsSameKey cmp seen_key p.0 q.0 × (seen p.1 ≡ seen q.1) × IsSamePairs ps qs
  IsSamePairs [] (q ∷ qs) = ⊥
  IsSamePairs (p ∷ ps) [] = ⊥

  abbrev pub IsSameCommand : Command K V → Command K V → Type 0
  IsSameCommand (Insert key value) (Insert k v) = IsSameKey cmp seen_key key k × (seen value ≡ seen v)
  IsSameCommand (Upsert key value) (Upsert k v) = IsSameKey cmp seen_key key k × (seen value ≡ seen v)
  IsSameCommand (Remove key) (Remove k) = IsSameKey cmp seen_key key k
  IsSameCommand (RemoveRange low high) (RemoveRange l h) = IsSameBound cmp seen_key low l × IsSameBound cmp seen_key high h
  IsSameCommand Clear Clear = ⊤
  IsSameCommand (Peek key) (Peek k) = IsSameKey cmp seen_key key k
  IsSameCommand _ _ = ⊥

  abbrev pub IsSameReply : Reply V → Reply V → Type 0
  IsSameReply Stored Stored = ⊤
  IsSameReply Duplicate Duplicate = ⊤
  IsSameReply (Removed was) (Removed w) = was ≡ w
  IsSameReply Done Done = ⊤
  IsSameReply (Found found) (Found f) = option_map seen found ≡ option_map seen f
  IsSameReply Refused Refused = ⊤
  IsSameReply _ _ = ⊥

  -- The history replays from the empty list, and the list that it replays to is that of the pairs.
  pub record IsHistoryOf (history : List (Record K V)) (pairs : List (K × V)) : Type 0 where
    pub replayed : List (K × V)
    pub replays : Replays cmp seen [] history replayed
    pub same : IsSamePairs pairs replayed

  -- The command was answered by the reply, and both went into the history.
  pub record Appends (old new : Log K V) (command : Command K V) (reply : Reply V) : Type 0 where
    pub step : Step cmp seen old.pairs command reply new.pairs
    pub answered : IsAnswered reply
    pub kept : Record K V
    pub appended : new.history ≡ old.history ++ kept ∷ []
    pub same_command : IsSameCommand command kept.command
    pub same_reply : IsSameReply reply kept.reply
