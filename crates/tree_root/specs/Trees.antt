-- What the calls of a tree answer and leave.
use Rattle.std.specs.Prelude.{◌≡◌, ◌⊎◌, ℕ, suc, ◌+◌, ◌-◌, ◌≤◌, Bool, true, false, List, [], length, Option, Some, None, Result, Ok, Err}
use Rattle.std.specs.List.{AllByRecursion}
use Rattle.std.specs.declared.cmp.Ordering.{Ordering}
use Rattle.std.specs.declared.cmp.Ordering.TheVariants.{Less}
use Rattle.std.specs.declared.ops.Bound.{Bound}
use Rattle.tree_array.specs.declared.answers.StoreResult.{StoreResult}
use Rattle.tree_array.specs.declared.answers.StoreResult.TheVariants.{New as NewKey, Replaced as OldKey, Duplicate as SameKey}
use Rattle.tree_model.specs.declared.commands.InsertError.{InsertError}
use Rattle.tree_model.specs.declared.commands.InsertError.TheVariants.{Duplicate, OutOfMemory}
use Rattle.tree_model.specs.Edits.{RemovesIf}
use Rattle.tree_model.specs.Pairs.{cut}
use Rattle.tree_insert.specs.Inserts.{Inserts, declined, refused, stores}
use Rattle.tree_node.specs.declared.node.Root.{Root}
use Rattle.tree_node.specs.Arenas.{TreeArenas}
use Rattle.tree_node.specs.Whole.{IsTree, depth_of, leaves_under, spare_under, walk_under}
use Rattle.tree_split.specs.Packed.{packed_under}
use Rattle.tree_remove.specs.Lowering.{IsRootIfAny}
use Rattle.tree_remove.specs.Takes.{IsEntry}
use Rattle.tree_remove.specs.declared.entries.EntryPlace.{EntryPlace}
use Rattle.tree_root.specs.declared.tree.Stored.{Stored}
use Rattle.tree_root.specs.declared.tree.Stored.TheVariants.{New, Replaced}
use Rattle.tree_root.specs.declared.tree.Tree.{Tree}

-- the answer of a tree as a node gives it; a tree always finds room, so none is `Full`
abbrev pub told : {K V : Type 0} → Result Stored (InsertError K V) → Result (StoreResult K V) (K × V)
told (Ok New) = Ok NewKey
told (Ok Replaced) = Ok OldKey
told (Err (Duplicate key val)) = Ok (SameKey key val)
told (Err (OutOfMemory key val)) = Err (key, val)

module _ {K V : Type 0} {LEN : ℕ} where
  abbrev pub pairs_of : Tree K V LEN → List (K × V)
  pairs_of tree = walk_under tree.arenas tree.root

  abbrev pub spare_of : Tree K V LEN → ℕ
  spare_of tree = spare_under tree.arenas tree.root

  abbrev pub IsWhole : (K → K → Ordering) → Tree K V LEN → Type 0
  IsWhole cmp tree = IsTree cmp tree.arenas tree.root

  abbrev pub packed_of : (K → K → Ordering) → Tree K V LEN → Bool
  packed_of cmp tree = packed_under cmp tree.arenas tree.root

  abbrev pub KeepsShape : (K → K → Ordering) → Tree K V LEN → Tree K V LEN → Type 0
  KeepsShape cmp old new = (depth_of new.root ≡ depth_of old.root) × (spare_of new ≡ spare_of old) × (packed_of cmp new ≡ packed_of cmp old)

  -- the pair is stored at this place
  abbrev pub IsStoredUnder : (K → K → Ordering) → TreeArenas K V LEN → Option Root → EntryPlace → K × V → Type 0
  IsStoredUnder cmp arenas None place pair = ⊥
  IsStoredUnder cmp arenas (Some root) place pair = IsEntry cmp root.level arenas root.id place.leaf place.slot pair

  abbrev pub IsStored : (K → K → Ordering) → Tree K V LEN → EntryPlace → K × V → Type 0
  IsStored cmp tree place pair = IsStoredUnder cmp tree.arenas tree.root place pair

  -- The pair is stored, or it comes back as a duplicate or for lack of memory.
  pub record Stores (cmp : K → K → Ordering) (upsert : Bool) (old new : Tree K V LEN) (key : K) (val : V) (result : Result (StoreResult K V) (K × V)) : Type 0 where
    pub whole : IsWhole cmp new
    pub pairs : Inserts cmp upsert result (pairs_of old) key val (pairs_of new)
    -- a write takes at most one slot of a leaf, and is refused only where one has none
    pub lowers : spare_of old ≤ suc (spare_of new)
    pub spent : refused result ≡ true → spare_of old ≡ 0
    -- the first one, before which there was no pair, makes a packed tree of one level
    pub first : depth_of old.root ≡ 0 → refused result ≡ false → (depth_of new.root ≡ 1) × (spare_of new ≡ LEN - 1) × (packed_of cmp new ≡ true) × (pairs_of old ≡ [])
    -- one with a key larger than all keeps the tree packed
    pub packed : stores result ≡ true → AllByRecursion (λ p. cmp p.0 key ≡ Less) (pairs_of old) → packed_of cmp old ≡ true → packed_of cmp new ≡ true
    -- a duplicate leaves the tree as it was
    pub kept : declined result ≡ true → KeepsShape cmp old new

  -- The pair at the key is gone, where the condition says so of its value, or nothing is. `Says` tells what the condition answers of a value.
  pub record Takes (cmp : K → K → Ordering) (Says : V → Bool → Type 0) (old new : Tree K V LEN) (key : K) (removed : Bool) : Type 0 where
    pub whole : IsWhole cmp new
    pub pairs : RemovesIf cmp Says (pairs_of old) key removed (pairs_of new)
    -- no leaf takes fewer writes than before, or no leaf is left
    pub spare : (spare_of old ≤ spare_of new) ⊎ (leaves_under new.arenas.nodes new.root ≡ [])
    pub kept : removed ≡ false → KeepsShape cmp old new

  -- There are as many pairs as before, in a tree of the same shape.
  pub record KeepsKeys (cmp : K → K → Ordering) (old new : Tree K V LEN) : Type 0 where
    pub whole : IsWhole cmp new
    pub counted : length (pairs_of new) ≡ length (pairs_of old)
    pub shape : KeepsShape cmp old new

  -- The pairs whose keys are within the bounds are gone, and there were so many.
  pub record Cuts (cmp : K → K → Ordering) (low high : Bound K) (old new : Tree K V LEN) (gone : ℕ) : Type 0 where
    pub whole : IsWhole cmp new
    pub pairs : pairs_of new ≡ cut cmp (pairs_of old) low high
    pub counted : gone + length (pairs_of new) ≡ length (pairs_of old)
    -- a root above the leaf nodes has a keyed child
    pub settled : IsRootIfAny cmp new.arenas new.root
