-- What an insert answers and leaves.
use Rattle.std.specs.Prelude.{◌≡◌, ◌⊎◌, ℕ, ◌<◌, ◌≤◌, Bool, true, false, length}
use Rattle.std.specs.declared.cmp.Ordering.{Ordering}
use Rattle.tree_model.specs.Pairs.{IsPresent, IsAbsent}
use Rattle.tree_array.specs.declared.answers.InsertResult.{InsertResult}
use Rattle.tree_array.specs.declared.answers.InsertResult.TheVariants.{Success, Duplicate, Full}
use Rattle.tree_array.specs.declared.answers.StoreResult.{StoreResult}
use Rattle.tree_array.specs.declared.answers.StoreResult.TheVariants as store
use Rattle.tree_array.specs.Arrivals.{Arrivals, free, stored}

-- a store's answer without what was there before
abbrev pub as_insert : {K V : Type 0} → StoreResult K V → InsertResult K V
as_insert store.New = Success
as_insert store.Replaced = Success
as_insert (store.Duplicate k v) = Duplicate k v
as_insert (store.Full k v) = Full k v

module _ {K V : Type 0} (len : ℕ) where
  -- no arrival can follow
  abbrev pub IsFull : Arrivals K V → Type 0
  IsFull array = (free len array ≡ 0) ⊎ (array.retired ≡ true)

  -- one can
  abbrev pub HasRoom : Arrivals K V → Type 0
  HasRoom array = (0 < free len array) × (array.retired ≡ false)

module _ {K V : Type 0} (cmp : K → K → Ordering) (len : ℕ) (upsert : Bool) (old : Arrivals K V) (key : K) (val : V) where
  -- the pair is stored, for which there was room
  pub record IsStored (new : Arrivals K V) : Type 0 where
    pub new_is : new ≡ stored cmp old key val
    pub room : HasRoom len old
    pub absent : upsert ≡ false → IsAbsent cmp old.entries key
    -- and there are no more entries than slots
    pub few : length new.entries ≤ len

  -- the pair comes back, and the array stays
  pub record IsBack (k : K) (v : V) (new : Arrivals K V) : Type 0 where
    pub new_is : new ≡ old
    pub same_key : k ≡ key
    pub same_val : v ≡ val

  -- its key is there already
  pub record IsDuplicate (k : K) (v : V) (new : Arrivals K V) : Type 0 where
    pub back : IsBack k v new
    pub only_insert : upsert ≡ false
    pub present : IsPresent cmp old.entries key

  -- there is no room for it
  pub record IsRefused (k : K) (v : V) (new : Arrivals K V) : Type 0 where
    pub back : IsBack k v new
    pub full : IsFull len old
    pub absent : upsert ≡ false → IsAbsent cmp old.entries key

  abbrev pub IsInsert : InsertResult K V → Arrivals K V → Type 0
  IsInsert Success new = IsStored new
  IsInsert (Duplicate k v) new = IsDuplicate k v new
  IsInsert (Full k v) new = IsRefused k v new

  abbrev pub IsStore : StoreResult K V → Arrivals K V → Type 0
  IsStore store.New new = IsStored new × IsAbsent cmp old.entries key
  IsStore store.Replaced new = IsStored new × (upsert ≡ true) × IsPresent cmp old.entries key
  IsStore (store.Duplicate k v) new = IsDuplicate k v new
  IsStore (store.Full k v) new = IsRefused k v new
