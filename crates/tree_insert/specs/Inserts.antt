-- What an insert under a number answers and leaves.
use Rattle.std.specs.Prelude.{◌≡◌, ◌⊎◌, ℕ, zero, suc, ◌<◌, ◌≤◌, Bool, true, false, List, [], ◌∷◌, Option, None, Some, Result, Ok, Err}
use Rattle.std.specs.Result.{OnErr}
use Rattle.tree_array.specs.Insertion.{as_insert}
use Rattle.tree_array.specs.declared.answers.InsertResult.{InsertResult}
use Rattle.tree_array.specs.declared.answers.StoreResult.{StoreResult}
use Rattle.tree_array.specs.declared.answers.StoreResult.TheVariants.{New, Replaced, Duplicate, Full}
use Rattle.tree_model.specs.Pairs.{IsAbsent, IsPresent, put}
use Rattle.tree_node.specs.Arenas.{Ordering, TreeArenas, get, limit}
use Rattle.tree_node.specs.Tree.{HasChildFor, IsAbove, IsUpTo, Stands, walk}
use Rattle.tree_node.specs.Parts.{Replaces, Unchanged}
use Rattle.tree_node.specs.Shape.{IsCrowded, held, room, found_keyed, spare}
use Rattle.tree_split.specs.Packed.{IsPacked}

module _ {K V : Type 0} where
  -- there was no room, in the arrays or in memory
  abbrev pub refused : Result (StoreResult K V) (K × V) → Bool
  refused (Ok (Full k v)) = true
  refused (Err pair) = true
  refused result = false

  -- the pair was stored
  abbrev pub stores : Result (StoreResult K V) (K × V) → Bool
  stores (Ok New) = true
  stores (Ok Replaced) = true
  stores result = false

  -- a split is asked for
  abbrev pub asks_split : Result (StoreResult K V) (K × V) → Bool
  asks_split (Ok (Full k v)) = true
  asks_split result = false

  -- the pair comes back, and not for lack of memory
  abbrev pub declined : Result (StoreResult K V) (K × V) → Bool
  declined (Ok (Duplicate k v)) = true
  declined (Ok (Full k v)) = true
  declined result = false

  -- the answer without what was there before
  abbrev pub plain_answer : Result (StoreResult K V) (K × V) → Result (InsertResult K V) (K × V)
  plain_answer (Ok answer) = Ok (as_insert answer)
  plain_answer (Err pair) = Err pair

module _ {K V : Type 0} (cmp : K → K → Ordering) where
  -- A leaf or a node below the number, on the way of the key, has to be divided: its array has no room, and too many to be rebuilt.
  abbrev pub HasToDivide : {LEN : ℕ} → ℕ → TreeArenas K V LEN → ℕ → K → Type 0
  HasToDivide zero arenas id key = ⊥
  HasToDivide {LEN = LEN} (suc level) arenas id key =
      (child : ℕ) × HasChildFor cmp key (get arenas.nodes id) child × (((room level arenas child ≡ 0) × (limit LEN < held level arenas child)) ⊎ HasToDivide level arenas child key)

module _ {K V : Type 0} (cmp : K → K → Ordering) (upsert : Bool) where
  -- no pair with the key is there, where one would have been found first
  abbrev pub IsNew : List (K × V) → K → Type 0
  IsNew old key = upsert ≡ false → IsAbsent cmp old key

  -- the pair is stored, as a new one or in place of one; or it comes back, and the list is what it was
  abbrev pub Inserts : Result (StoreResult K V) (K × V) → List (K × V) → K → V → List (K × V) → Type 0
  Inserts (Ok New) old key val new = IsAbsent cmp old key × (new ≡ put cmp old key val)
  Inserts (Ok Replaced) old key val new = (upsert ≡ true) × IsPresent cmp old key × (new ≡ put cmp old key val)
  Inserts (Ok (Duplicate k v)) old key val new = (upsert ≡ false) × IsPresent cmp old key × (k ≡ key) × (v ≡ val) × (new ≡ old)
  Inserts (Ok (Full k v)) old key val new = IsNew old key × (k ≡ key) × (v ≡ val) × (new ≡ old)
  Inserts (Err pair) old key val new = IsNew old key × (pair.0 ≡ key) × (pair.1 ≡ val) × (new ≡ old)

  pub record InsertsUnder {LEN : ℕ} (level : ℕ) (old new : TreeArenas K V LEN) (id : ℕ) (result : Result (StoreResult K V) (K × V)) (key : K) (val : V) : Type 0 where
    pub pairs : Inserts result (walk level old id) key val (walk level new id)
    -- the part stays between the bounds that it had, if the key is between them
    pub stands : (low high : Option K) → IsAbove cmp low key → IsUpTo cmp key high → Stands cmp level old low id high → Stands cmp level new low id high
    pub replaces : Replaces level old new (id ∷ []) (id ∷ [])
    -- a write takes one of the spare, and is refused only where none is spare; but a leaf by itself asks for a split also where it will be rebuilt
    pub lowers : spare level old id ≤ suc (spare level new id)
    pub spent : refused result ≡ true → (asks_split result ≡ true → 0 < level) → spare level old id ≡ 0
    -- a split is asked for only where no array on the way of the key has room, nor can be rebuilt
    pub full : asks_split result ≡ true → IsCrowded cmp level old id key
    -- memory is wanted, and so refused, only where a leaf or a node has to be divided
    pub divided : OnErr result (HasToDivide cmp level old id key)
    -- where that is so, or the key is there, nothing has changed
    pub unchanged : declined result ≡ true → Unchanged old new
    -- a key larger than all keeps the part packed, and the keyed children that it had
    pub packed : stores result ≡ true → IsPacked cmp (Some key) level old id → IsPacked cmp None level new id × (found_keyed (get old.nodes id) ≤ found_keyed (get new.nodes id))

  -- The same with the plain answer, which doesn't tell a new key from a replaced one.
  pub record InsertsPlainly {LEN : ℕ} (level : ℕ) (old new : TreeArenas K V LEN) (id : ℕ) (result : Result (InsertResult K V) (K × V)) (key : K) (val : V) : Type 0 where
    pub told : Result (StoreResult K V) (K × V)
    pub plain : result ≡ plain_answer told
    pub inserts : InsertsUnder level old new id told key val
