-- Texts that are written whole or in part.
use Rattle.std.specs.Prelude.{◌≡◌, ℕ, List, ◌∷◌, ◌++◌, Option, Result, Ok, Err}
use Rattle.std.specs.Io.KnownBytes.{Appends}

-- The part is a prefix of the text, perhaps empty, and not the whole text.
pub record IsFront (part text : List ℕ) : Type 0 where
  pub next : ℕ
  pub others : List ℕ
  pub text_is : text ≡ part ++ next ∷ others

-- After `Ok` the whole text was written, after `Err` a part of it or nothing.
abbrev pub Writes : {T E : Type 0} → List ℕ → Option (List ℕ) → Option (List ℕ) → Result T E → Type 0
Writes text contents contents' (Ok _) = Appends contents contents' text
Writes text contents contents' (Err _) = (part : List ℕ) × Appends contents contents' part × IsFront part text
