-- Keys that begin with a prefix: where they end, and their removal.
use Rattle.std.specs.Prelude.{◌≡◌, ◌⊎◌, ℕ, ℤ, ◌^◌, ◌<◌, ◌≤◌, List, ◌++◌, drop, length, ⊤}
use Rattle.std.specs.declared.ops.Bound.{Bound}
use Rattle.std.specs.declared.ops.Bound.TheVariants.{Included, Excluded, Unbounded}
use Rattle.tree_index.specs.Index.{Index}
use Rattle.tree_index_c.specs.declared.status.TheConstants.{NO, YES, NO_MEMORY, NO_ROOM}
use Rattle.tree_texts.specs.Head.{AreBytes}
use Rattle.tree_texts.specs.Prefix.{BoundPrefix, beginning_with, not_beginning_with}

-- An end excludes a key that isn't longer than the prefix, or is no bound.
abbrev pub IsEnd : List ℕ → Bound (List ℕ) → Type 0
IsEnd prefix (Excluded end) = length end ≤ length prefix
IsEnd prefix Unbounded = ⊤
IsEnd prefix (Included end) = ⊥

-- Between the prefix and its end are the keys that begin with the prefix.
pub record EndsPrefix (prefix : List ℕ) (end : Bound (List ℕ)) : Type 0 where
  pub bounds : BoundPrefix AreBytes prefix (Included prefix, end)
  pub short : IsEnd prefix end

-- The key that an end excludes is written, if there is one. Where the places are too few for it, they stay.
abbrev pub WritesEnd : Bound (List ℕ) → ℤ → List ℕ → List ℕ → ℕ → ℕ → Type 0
WritesEnd (Excluded end) answer before after length_before length_after =
    (length_after ≡ length end)
    × (((answer ≡ YES) × (length end ≤ length before) × (after ≡ end ++ drop (length end) before)) ⊎ ((answer ≡ NO_ROOM) × (length before < length end) × (after ≡ before)))
WritesEnd _ answer before after length_before length_after = (answer ≡ NO) × (after ≡ before) × (length_after ≡ length_before)

-- the same, or an allocation failed
abbrev pub WritesEndOrRefuses : Bound (List ℕ) → ℤ → List ℕ → List ℕ → ℕ → ℕ → Type 0
WritesEndOrRefuses end answer before after length_before length_after =
    WritesEnd end answer before after length_before length_after ⊎ ((answer ≡ NO_MEMORY) × (after ≡ before) × (length_after ≡ length_before))

-- The pairs whose keys begin with the prefix are removed, and counted unless there are more pairs than a number can count. Or an allocation failed, and nothing changed.
abbrev pub RemovesPrefix : List ℕ → ℕ → ℕ → Index (List ℕ) ℕ → ℤ → Index (List ℕ) ℕ → Type 0
RemovesPrefix prefix before after old answer new =
    ((answer ≡ YES) × (new.pairs ≡ not_beginning_with prefix old.pairs) × (length old.pairs < 2 ^ 64 → after ≡ length (beginning_with prefix old.pairs)))
    ⊎ ((answer ≡ NO_MEMORY) × (after ≡ before) × (new ≡ old))
