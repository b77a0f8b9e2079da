-- What a removal under a number answers and leaves. `Says` tells what the condition answers of a value.
-- The words of the layers below are passed on to the other files here.
use Rattle.std.specs.Prelude.{◌≡◌, ℕ, ◌≤◌, Bool, true, false, List, [], ◌∷◌, Some}
pub use Rattle.tree_array.specs.declared.answers.RemoveResult.{RemoveResult}
pub use Rattle.tree_array.specs.declared.answers.RemoveResult.TheVariants.{Success, Retired, Fail}
pub use Rattle.tree_model.specs.Pairs.{IsAbsent, pair_at, without}
pub use Rattle.tree_node.specs.Arenas.{LeafOf, Ordering, TreeArenas, arrival, get}
pub use Rattle.tree_node.specs.Tree.{IsOfLevel, IsRetired, walk}
use Rattle.tree_node.specs.Parts.{KeepsBounds, Replaces, Unchanged}
use Rattle.tree_node.specs.Shape.{spare}

-- what a removal answers that leaves its leaf a pair
abbrev pub removal_told : Bool → RemoveResult
removal_told true = Success
removal_told false = Fail

-- what is said of a value that goes whatever it is
abbrev pub surely : {V : Type 0} → V → Bool → Type 0
surely value said = said ≡ true

module _ {K V : Type 0} (cmp : K → K → Ordering) (Says : V → Bool → Type 0) where
  -- the pair with the key, of which the condition says yes, is gone
  pub record TakesOut (old : List (K × V)) (key : K) (new : List (K × V)) : Type 0 where
    pub pair : K × V
    pub was : pair_at cmp old key ≡ Some pair
    pub said : Says pair.1 true
    pub left : new ≡ without cmp old key

  -- `Retired` says that it was the last one; after `Fail` nothing is gone, since the key was absent or the condition said no
  abbrev pub Removes : RemoveResult → List (K × V) → K → List (K × V) → Type 0
  Removes Success old key new = TakesOut old key new
  Removes Retired old key new = TakesOut old key new × (new ≡ [])
  Removes Fail old key new = ((pair : K × V) → pair_at cmp old key ≡ Some pair → Says pair.1 false) × (new ≡ old)

  -- what stands under the number then: a part between the bounds that it had, or a retired one
  abbrev pub Leaves : {LEN : ℕ} → RemoveResult → ℕ → TreeArenas K V LEN → TreeArenas K V LEN → ℕ → Type 0
  Leaves Success level old new id = KeepsBounds cmp level old new id
  Leaves Retired level old new id = IsRetired level new id × IsOfLevel level (get new.nodes id)
  Leaves Fail level old new id = Unchanged old new

  pub record RemovesUnder {LEN : ℕ} (level : ℕ) (old new : TreeArenas K V LEN) (id : ℕ) (result : RemoveResult) (key : K) : Type 0 where
    pub pairs : Removes result (walk level old id) key (walk level new id)
    pub leaves : Leaves result level old new id
    pub replaces : Replaces level old new (id ∷ []) (id ∷ [])
    -- no leaf takes fewer writes than before
    pub spare : spare level old id ≤ spare level new id
