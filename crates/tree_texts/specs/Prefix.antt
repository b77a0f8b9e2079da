-- The bounds of the keys that begin with a prefix, and what they say of an index.
use Rattle.std.specs.Prelude.{◌≡◌, ℕ, IsTrue, ◌+◌, List, [], ◌∷◌, filter, not, if◌then◌else◌, nat_eq}
use Rattle.std.specs.List.{AllByRecursion, starts_with}
use Rattle.std.specs.Cmp.Lexicographic.{slice_cmp}
use Rattle.std.specs.Ordering.{nat_cmp}
use Rattle.std.specs.declared.ops.Bound.{Bound}
use Rattle.std.specs.declared.ops.Bound.TheVariants.{Included, Excluded, Unbounded}
use Rattle.tree_model.specs.Pairs.{within}

-- Between the bounds are the keys that begin with the prefix: all of them, and no other key that is one by IsKey.
pub record BoundPrefix (IsKey : List ℕ → Type 0) (prefix : List ℕ) (bounds : Bound (List ℕ) × Bound (List ℕ)) : Type 0 where
  pub low : bounds.0 ≡ Included prefix
  pub all : (key : List ℕ) → IsTrue (starts_with nat_eq key prefix) → IsTrue (within (slice_cmp nat_cmp) bounds.0 bounds.1 key)
  pub exact : (key : List ℕ) → IsKey key → within (slice_cmp nat_cmp) bounds.0 bounds.1 key ≡ starts_with nat_eq key prefix

-- the upper bound with one more byte in front: if there is none yet, that byte is raised by one, unless it is the last
abbrev pub raised : ℕ → Bound (List ℕ) → Bound (List ℕ)
raised byte (Included end) = Included (byte ∷ end)
raised byte (Excluded end) = Excluded (byte ∷ end)
raised byte Unbounded = if nat_eq byte 255 then Unbounded else Excluded ((byte + 1) ∷ [])

-- the upper bound of the byte strings that begin with a prefix
unfoldable pub end_of : List ℕ → Bound (List ℕ)
end_of [] = Unbounded
end_of (byte ∷ bytes) = raised byte (end_of bytes)

module _ {V : Type 0} where
  -- the pairs whose keys begin with the prefix, and the others
  abbrev pub beginning_with : List ℕ → List (List ℕ × V) → List (List ℕ × V)
  beginning_with prefix pairs = filter (λ pair. starts_with nat_eq pair.0 prefix) pairs

  abbrev pub not_beginning_with : List ℕ → List (List ℕ × V) → List (List ℕ × V)
  not_beginning_with prefix pairs = filter (λ pair. not (starts_with nat_eq pair.0 prefix)) pairs

  -- of each pair, whether it is within the bounds is whether its key begins with the prefix
  abbrev pub TellsPrefix : List ℕ → Bound (List ℕ) × Bound (List ℕ) → List (List ℕ × V) → Type 0
  TellsPrefix prefix bounds pairs = AllByRecursion (λ pair. within (slice_cmp nat_cmp) bounds.0 bounds.1 pair.0 ≡ starts_with nat_eq pair.0 prefix) pairs
