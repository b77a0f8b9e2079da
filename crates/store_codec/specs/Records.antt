-- Records as bytes: a tag, and then keys and values one after another.
use Rattle.std.specs.Prelude.{◌≡◌, ℕ, ◌==◌, if◌then◌else◌, List, [], ◌∷◌, ◌++◌, Option, Some, None}
use Rattle.std.specs.Range.Bound.{bound_map}
use Rattle.std.specs.declared.ops.Bound.{Bound}
use Rattle.std.specs.declared.ops.Bound.TheVariants.{Included, Excluded, Unbounded}
use Rattle.store_codec.specs.declared.records.Record.{Record}
use Rattle.store_codec.specs.declared.records.Record.TheVariants.{Put, Remove, Cut, Clear}

-- a record of what is seen
abbrev pub record_map : {K V K' V' : Type 0} → (K → K') → (V → V') → Record K V → Record K' V'
record_map key value_ (Put k v) = Put (key k) (value_ v)
record_map key value_ (Remove k) = Remove (key k)
record_map key value_ (Cut low high) = Cut (bound_map key low) (bound_map key high)
record_map key value_ Clear = Clear

-- what is read first, and then what follows
abbrev pub then_read : {A B : Type 0} → Option (A × List ℕ) → (A → List ℕ → Option B) → Option B
then_read None more = None
then_read (Some found) more = more found.0 found.1

-- reading finds what was written, whatever is behind it
abbrev pub ReadsBack : {A : Type 0} → (List ℕ → Option (A × List ℕ)) → List ℕ → A → Type 0
ReadsBack {A} read bytes a = (rest : List ℕ) → read (bytes ++ rest) ≡ Some (a, rest)

module _ {K : Type 0} (key_bytes : K → List ℕ) where
  abbrev pub bound_bytes : Bound K → List ℕ
  bound_bytes Unbounded = 0 ∷ []
  bound_bytes (Included key) = 1 ∷ key_bytes key
  bound_bytes (Excluded key) = 2 ∷ key_bytes key

module _ {K V : Type 0} (key_bytes : K → List ℕ) (value_bytes : V → List ℕ) where
  abbrev pub record_bytes : Record K V → List ℕ
  record_bytes (Put key value) = 1 ∷ key_bytes key ++ value_bytes value
  record_bytes (Remove key) = 2 ∷ key_bytes key
  record_bytes (Cut low high) = 3 ∷ bound_bytes key_bytes low ++ bound_bytes key_bytes high
  record_bytes Clear = 4 ∷ []

module _ {K : Type 0} (key_at : List ℕ → Option (K × List ℕ)) where
  abbrev pub bound_with : ℕ → List ℕ → Option (Bound K × List ℕ)
  bound_with tag rest =
      if tag == 0 then Some (Unbounded, rest)
      else if tag == 1 then then_read (key_at rest) (λ key behind. Some (Included key, behind))
      else if tag == 2 then then_read (key_at rest) (λ key behind. Some (Excluded key, behind))
      else None

  abbrev pub bound_at : List ℕ → Option (Bound K × List ℕ)
  bound_at [] = None
  bound_at (tag ∷ rest) = bound_with tag rest

module _ {K V : Type 0} (key_at : List ℕ → Option (K × List ℕ)) (value_at : List ℕ → Option (V × List ℕ)) where
  abbrev pub record_with : ℕ → List ℕ → Option (Record K V × List ℕ)
  record_with tag rest =
      if tag == 1 then then_read (key_at rest) (λ key more. then_read (value_at more) (λ value behind. Some (Put key value, behind)))
      else if tag == 2 then then_read (key_at rest) (λ key behind. Some (Remove key, behind))
      else if tag == 3 then then_read (bound_at key_at rest) (λ low more. then_read (bound_at key_at more) (λ high behind. Some (Cut low high, behind)))
      else if tag == 4 then Some (Clear, rest)
      else None

  -- the record at the front
  abbrev pub record_at : List ℕ → Option (Record K V × List ℕ)
  record_at [] = None
  record_at (tag ∷ rest) = record_with tag rest
