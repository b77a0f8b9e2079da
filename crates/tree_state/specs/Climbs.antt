-- How deep an index grows by a run of inserts in ascending order.
use Rattle.std.specs.Prelude.{◌≡◌, ◌≢◌, ℕ, ◌<◌, List, map, length, ⊤}
use Rattle.std.specs.List.{AllByRecursion}
use Rattle.std.specs.declared.cmp.Ordering.{Ordering}
use Rattle.tree_model.specs.declared.commands.Command.{Command}
use Rattle.tree_model.specs.declared.commands.Command.TheVariants.{Insert}
use Rattle.tree_model.specs.declared.commands.Reply.{Reply}
use Rattle.tree_model.specs.declared.commands.Reply.TheVariants.{Duplicate, Refused, Stored}
use Rattle.tree_model.specs.Pairs.{IsAscending}
use Rattle.tree_index.specs.Index.{Index, IsShallow, IsWritten, StaysPacked}

module _ {K V : Type 0} (cmp : K → K → Ordering) (LEN : ℕ) where
  -- what an insert does to a packed index
  abbrev pub PacksBy : Command K V → Index K V → Index K V → Reply V → Type 0
  PacksBy (Insert k v) old new Stored = IsWritten LEN old new × StaysPacked cmp old new k
  PacksBy (Insert k v) old new Duplicate = 0 < old.depth
  PacksBy _ old new reply = ⊤

  -- Where the commands insert ascending pairs into an index without a level, and none is refused, the index isn't deep for so many pairs.
  abbrev pub Climbs : List (Command K V) → List (Reply V) → Index K V → Index K V → Type 0
  Climbs commands replies old new =
      (pairs : List (K × V)) → IsAscending cmp pairs → commands ≡ map (λ p. Insert p.0 p.1) pairs → AllByRecursion (λ reply. reply ≢ Refused) replies → old.depth ≡ 0
      → IsShallow LEN (length pairs) new.depth
