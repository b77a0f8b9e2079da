-- What each edit of a list of pairs answers and leaves, by cases on its answer.
use Rattle.std.specs.Prelude.{◌≡◌, Bool, true, false, List, Some, Result, Ok, Err}
use Rattle.std.specs.Option.{ForSome}
use Rattle.std.specs.declared.cmp.Ordering.{Ordering}
use Rattle.tree_model.specs.declared.commands.InsertError.{InsertError}
use Rattle.tree_model.specs.declared.commands.InsertError.TheVariants.{Duplicate, OutOfMemory}
use Rattle.tree_model.specs.Pairs.{IsPresent, IsAbsent, pair_at, put, without}

-- the pair that an insert returns
abbrev pub handed_back : {K V : Type 0} → InsertError K V → K × V
handed_back (Duplicate key value) = (key, value)
handed_back (OutOfMemory key value) = (key, value)

module _ {K V : Type 0} (cmp : K → K → Ordering) where
  -- The pair is stored, where its key was absent. Or it comes back and nothing changed: as a duplicate where its key is present, for lack of memory where it is absent.
  abbrev pub Inserts : {T : Type 0} → List (K × V) → K → V → Result T (InsertError K V) → List (K × V) → Type 0
  Inserts old k v (Ok _) new = IsAbsent cmp old k × (new ≡ put cmp old k v)
  Inserts old k v (Err (Duplicate key value)) new = IsPresent cmp old k × (key ≡ k) × (value ≡ v) × (new ≡ old)
  Inserts old k v (Err (OutOfMemory key value)) new = IsAbsent cmp old k × (key ≡ k) × (value ≡ v) × (new ≡ old)

  -- The pair is stored, in place of one whose key equals its own. Or memory was refused: it comes back and nothing changed.
  abbrev pub Upserts : {T : Type 0} → List (K × V) → K → V → Result T (K × V) → List (K × V) → Type 0
  Upserts old k v (Ok _) new = new ≡ put cmp old k v
  Upserts old k v (Err pair) new = (pair ≡ (k, v)) × (new ≡ old)

  -- The pair at the key is gone, where a condition says so of its value. Else the key is absent or the condition says no, and nothing changed. `Says` tells what the condition answers of a value.
  abbrev pub RemovesIf : (V → Bool → Type 0) → List (K × V) → K → Bool → List (K × V) → Type 0
  RemovesIf Says old k true new = (pair : K × V) × (pair_at cmp old k ≡ Some pair) × Says pair.1 true × (new ≡ without cmp old k)
  RemovesIf Says old k false new = ForSome (pair_at cmp old k) (λ pair. Says pair.1 false) × (new ≡ old)
