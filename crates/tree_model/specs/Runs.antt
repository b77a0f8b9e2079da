-- Commands, one after another, on a list of pairs. `seen` is what contracts see of a value, which a clone keeps.
use Rattle.std.specs.Prelude.{◌≡◌, ◌↔◌, IsTrue, List, [], ◌∷◌, option_map}
use Rattle.std.specs.declared.cmp.Ordering.{Ordering}
use Rattle.tree_model.specs.declared.commands.Command.{Command}
use Rattle.tree_model.specs.declared.commands.Command.TheVariants.{Insert, Upsert, Remove, RemoveRange, Clear, Peek}
use Rattle.tree_model.specs.declared.commands.Reply.{Reply}
use Rattle.tree_model.specs.declared.commands.Reply.TheVariants.{Stored, Duplicate, Removed, Done, Found, Refused}
use Rattle.tree_model.specs.Pairs.{IsPresent, IsAbsent, pair_at, put, without, cut}

module _ {K V S : Type 0} (cmp : K → K → Ordering) (seen : V → S) where
  -- From old, the command may be answered by the reply, and leaves new.
  abbrev pub Step : List (K × V) → Command K V → Reply V → List (K × V) → Type 0
  Step old (Insert k v) Stored new = IsAbsent cmp old k × (new ≡ put cmp old k v)
  Step old (Insert k v) Duplicate new = IsPresent cmp old k × (new ≡ old)
  Step old (Insert k v) Refused new = IsAbsent cmp old k × (new ≡ old)
  Step old (Upsert k v) Stored new = new ≡ put cmp old k v
  Step old (Upsert k v) Refused new = new ≡ old
  Step old (Remove k) (Removed was) new = (IsTrue was ↔ IsPresent cmp old k) × (new ≡ without cmp old k)
  Step old (RemoveRange low high) Done new = new ≡ cut cmp old low high
  Step old Clear Done new = new ≡ []
  Step old (Peek k) (Found found) new = (option_map seen found ≡ option_map (λ pair. seen pair.1) (pair_at cmp old k)) × (new ≡ old)
  Step old (Peek k) Refused new = IsPresent cmp old k × (new ≡ old)
  Step old _ _ new = ⊥

  -- From old, the commands may be answered by the replies, one after another, and leave new.
  abbrev pub Runs : List (K × V) → List (Command K V) → List (Reply V) → List (K × V) → Type 0
  Runs old [] [] new = new ≡ old
  Runs old (command ∷ commands) (reply ∷ replies) new = (mid : List (K × V)) × Step old command reply mid × Runs mid commands replies new
  Runs old [] (reply ∷ replies) new = ⊥
  Runs old (command ∷ commands) [] new = ⊥
