-- Pairs and options as bytes.
use Rattle.std.specs.Prelude.{ℕ, ◌==◌, if◌then◌else◌, List, [], ◌∷◌, Option, Some, None}
use Rattle.store_codec.specs.Records.{then_read}

abbrev pub pair_at : {A B : Type 0} → (List ℕ → Option (A × List ℕ)) → (List ℕ → Option (B × List ℕ)) → List ℕ → Option ((A × B) × List ℕ)
pair_at first_at second_at bytes = then_read (first_at bytes) (λ first more. then_read (second_at more) (λ second behind. Some ((first, second), behind)))

abbrev pub option_bytes : {V : Type 0} → (V → List ℕ) → Option V → List ℕ
option_bytes bytes_of None = 0 ∷ []
option_bytes bytes_of (Some v) = 1 ∷ bytes_of v

abbrev pub option_with : {V : Type 0} → (List ℕ → Option (V × List ℕ)) → ℕ → List ℕ → Option (Option V × List ℕ)
option_with value_at tag rest =
    if tag == 0 then Some (None, rest)
    else if tag == 1 then then_read (value_at rest) (λ v behind. Some (Some v, behind))
    else None

abbrev pub option_at : {V : Type 0} → (List ℕ → Option (V × List ℕ)) → List ℕ → Option (Option V × List ℕ)
option_at value_at [] = None
option_at value_at (tag ∷ rest) = option_with value_at tag rest
