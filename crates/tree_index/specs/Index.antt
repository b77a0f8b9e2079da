-- What contracts see of an index.
use Rattle.std.specs.Prelude.{◌≡◌, ◌⊎◌, ℕ, suc, ◌-◌, ◌<◌, ◌≤◌, ◌^◌, Bool, true, false, List, [], length, Option, None, Result, Ok, Err}
use Rattle.std.specs.Option.{option_map}
use Rattle.std.specs.List.{AllByRecursion}
use Rattle.std.specs.declared.cmp.Ordering.{Ordering}
use Rattle.std.specs.declared.cmp.Ordering.TheVariants.{Less}
use Rattle.tree_model.specs.Pairs.{put}
use Rattle.tree_model.specs.declared.commands.InsertError.{InsertError}
use Rattle.tree_model.specs.declared.commands.InsertError.TheVariants.{Duplicate, OutOfMemory}
use Rattle.tree_node.specs.Arenas.{TreeArenas}
use Rattle.tree_insert.specs.Inserts.{Inserts, declined, refused, stores}
use Rattle.tree_node.specs.Whole.{IsTree, depth_of, root_at, spare_under, walk_under}
use Rattle.tree_root.specs.declared.tree.Stored.{Stored}
use Rattle.tree_root.specs.declared.tree.Tree.{Tree}
use Rattle.tree_split.specs.Packed.{packed_under}
use Rattle.tree_root.specs.Trees.{packed_of, pairs_of, spare_of, told}

pub record Index (K V : Type 0) : Type 0 where
  -- the pairs, strictly ascending by key
  pub pairs : List (K × V)
  -- how many levels of nodes there are
  pub depth : ℕ
  -- how many writes are sure to be stored without memory
  pub spare : ℕ
  -- whether its tree is as full as can be along its right edge
  pub packed : Bool

-- the index that a tree is
abbrev pub index_of : {K V : Type 0} {LEN : ℕ} → (K → K → Ordering) → Tree K V LEN → Index K V
index_of cmp tree = record { pairs = pairs_of tree; depth = depth_of tree.root; spare = spare_of tree; packed = packed_of cmp tree }

-- one level, or more pairs than a full part of one level less has
abbrev pub IsShallow : ℕ → ℕ → ℕ → Type 0
IsShallow LEN count depth = (depth ≤ 1) ⊎ (LEN ^ depth < count)

-- the index with another value under a stored key
abbrev pub with_value : {K V : Type 0} → (K → K → Ordering) → Index K V → K → V → Index K V
with_value cmp index key val = record index { pairs = put cmp index.pairs key val }

module _ {K V : Type 0} where
  -- A write took at most one slot of a leaf. The first one, before which there was no pair, made a packed tree of one level. A packed index isn't deep.
  pub record IsWritten (LEN : ℕ) (old new : Index K V) : Type 0 where
    pub lowers : old.spare ≤ suc new.spare
    pub first : old.depth ≡ 0 → (new.depth ≡ 1) × (new.spare ≡ LEN - 1) × (new.packed ≡ true) × (old.pairs ≡ [])
    pub shallow : new.packed ≡ true → IsShallow LEN (length new.pairs) new.depth

  -- An index that is packed stays so, where the key is larger than all.
  abbrev pub StaysPacked : (K → K → Ordering) → Index K V → Index K V → K → Type 0
  StaysPacked cmp old new key = AllByRecursion (λ p. cmp p.0 key ≡ Less) old.pairs → old.packed ≡ true → new.packed ≡ true

  -- The pair is stored, or it comes back as a duplicate or for lack of memory.
  pub record StoresPair (cmp : K → K → Ordering) (upsert : Bool) (LEN : ℕ) (old new : Index K V) (key : K) (val : V) (result : Result Stored (InsertError K V)) : Type 0 where
    pub pairs : Inserts cmp upsert (told result) old.pairs key val new.pairs
    pub spent : refused (told result) ≡ true → old.spare ≡ 0
    pub written : refused (told result) ≡ false → IsWritten LEN old new
    pub kept : declined (told result) ≡ true → new ≡ old
    pub packed : stores (told result) ≡ true → StaysPacked cmp old new key

  -- What an insert and an upsert do to depth and spare: a pair that is stored takes at most one of the spare, a duplicate changes nothing, and a pair is refused only where none is spare.
  abbrev pub SpendsInsert : {T : Type 0} → ℕ → Index K V → Index K V → Result T (InsertError K V) → Type 0
  SpendsInsert LEN old new (Ok _) = IsWritten LEN old new
  SpendsInsert LEN old new (Err (Duplicate key value)) = (0 < old.depth) × (new ≡ old)
  SpendsInsert LEN old new (Err (OutOfMemory key value)) = old.spare ≡ 0

  abbrev pub SpendsUpsert : {T : Type 0} → ℕ → Index K V → Index K V → Result T (K × V) → Type 0
  SpendsUpsert LEN old new (Ok _) = IsWritten LEN old new
  SpendsUpsert LEN old new (Err pair) = old.spare ≡ 0

  -- No leaf takes fewer writes than before; or none is left, with no pair and nothing spare.
  abbrev pub KeepsSpare : Index K V → Index K V → Type 0
  KeepsSpare old new = (old.spare ≤ new.spare) ⊎ ((new.pairs ≡ []) × (new.spare ≡ 0))

-- The index is a whole tree: these arenas, and this root at the level of its depth.
pub record IsTreeOf {K V : Type 0} {LEN : ℕ} (cmp : K → K → Ordering) (index : Index K V) (arenas : TreeArenas K V LEN) (root : Option ℕ) : Type 0 where
  pub tree : IsTree cmp arenas (option_map (λ id. root_at id index.depth) root)
  pub pairs : walk_under arenas (option_map (λ id. root_at id index.depth) root) ≡ index.pairs
  pub spare : spare_under arenas (option_map (λ id. root_at id index.depth) root) ≡ index.spare
  pub packed : packed_under cmp arenas (option_map (λ id. root_at id index.depth) root) ≡ index.packed
  -- without a root there is no level
  pub rootless : root ≡ None → index.depth ≡ 0
