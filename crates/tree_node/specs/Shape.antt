-- How much room there is in a part.
use Rattle.std.specs.Prelude.{◌≡◌, ℕ, zero, suc, ◌+◌, ◌-◌, ◌<◌, min, leb, List, [], ◌∷◌, length, Option, Some, None, if◌then◌else◌}
use Rattle.tree_node.specs.Arenas.{LeafOf, NodeOf, Ordering, Slab, TreeArenas, free, get, leaf_entries, limit}
use Rattle.tree_node.specs.Tree.{HasChildFor, keyed, unbounded, leaves_at}

-- the least of these numbers, and `most` where there is none
abbrev pub least : ℕ → (ℕ → ℕ) → List ℕ → ℕ
least most f [] = most
least most f (id ∷ ids) = min (f id) (least most f ids)

module _ {K V : Type 0} {LEN : ℕ} where
  -- how many more pairs the leaf takes, which are none once it is retired
  abbrev pub found_free : Option (LeafOf K V LEN) → ℕ
  found_free None = 0
  found_free (Some leaf) = if leaf.array.retired then 0 else free LEN leaf.array

  abbrev pub leaf_free : Slab (LeafOf K V LEN) → ℕ → ℕ
  leaf_free leaves id = found_free (get leaves id)

-- how many writes, whatever their keys, an array takes that has so many entries and so many free slots: those that fill it, or, where it will be rebuilt in place by then, those that fill it once it was
abbrev pub spare_for : ℕ → ℕ → ℕ → ℕ
spare_for len count room = if leb (count + room) (limit len) then len - count else room

module _ {K V : Type 0} {LEN : ℕ} where
  -- how many writes are sure to go into the leaf without memory
  abbrev pub found_spare : Option (LeafOf K V LEN) → ℕ
  found_spare None = 0
  found_spare (Some leaf) = spare_for LEN (length leaf.array.entries) (found_free (Some leaf))

  abbrev pub leaf_spare : Slab (LeafOf K V LEN) → ℕ → ℕ
  leaf_spare leaves id = found_spare (get leaves id)

-- how many more children a node takes beside its unbounded one
abbrev pub children_free : {K : Type 0} {LEN : ℕ} → Option ℕ → NodeOf K LEN → ℕ
children_free None node = 0
children_free {LEN = LEN} (Some last) node = if (keyed node).retired then 0 else free LEN (keyed node)

abbrev pub found_room : {K : Type 0} {LEN : ℕ} → Option (NodeOf K LEN) → ℕ
found_room None = 0
found_room (Some node) = children_free (unbounded node) node

abbrev pub found_keyed : {K : Type 0} {LEN : ℕ} → Option (NodeOf K LEN) → ℕ
found_keyed None = 0
found_keyed (Some node) = length (keyed node).entries

module _ {K V : Type 0} {LEN : ℕ} where
  -- the least that a leaf of the part takes: as many writes go into it without memory
  abbrev pub spare : ℕ → TreeArenas K V LEN → ℕ → ℕ
  spare level arenas id = least LEN (leaf_spare arenas.leaves) (leaves_at level arenas.nodes id)

  -- the room in the array right under the number
  abbrev pub room : ℕ → TreeArenas K V LEN → ℕ → ℕ
  room zero arenas id = leaf_free arenas.leaves id
  room (suc level) arenas id = found_room (get arenas.nodes id)

  -- how many entries, or keyed children, that array has
  abbrev pub held : ℕ → TreeArenas K V LEN → ℕ → ℕ
  held zero arenas id = length (leaf_entries arenas.leaves id)
  held (suc level) arenas id = found_keyed (get arenas.nodes id)

  -- no array on the way of the key has room, and each below the number has too many to be rebuilt
  abbrev pub IsCrowded : (K → K → Ordering) → ℕ → TreeArenas K V LEN → ℕ → K → Type 0
  IsCrowded cmp zero arenas id key = room zero arenas id ≡ 0
  IsCrowded cmp (suc level) arenas id key =
      (room (suc level) arenas id ≡ 0) × (child : ℕ) × HasChildFor cmp key (get arenas.nodes id) child × (limit LEN < held level arenas child) × IsCrowded cmp level arenas child key
