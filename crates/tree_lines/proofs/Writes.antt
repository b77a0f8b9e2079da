-- Writes of a text, one after another.
use Rattle.std.proofs.Common.{◌≡◌, ℕ, ◌<◌, ◌≤◌, List, [], ◌∷◌, ◌++◌, length, take, ◌⊎◌, inl, inr, refl, arith, Option, Result, Ok, Err}
use Rattle.std.specs.Io.KnownBytes.{Appends}
use Rattle.std.specs.Result.{result_unwrap_or}
use Rattle.std.specs.Io.{WritesAtMost}
use Rattle.std.specs.Io.KnownBytes.{WriteAppends}
use Rattle.std.proofs.KnownBytes.{Appends-kept, Appends-nil}
use Rattle.tree_lines.specs.Writing.{IsFront, Writes}

-- a part that something follows is not the whole
pub front_of : (text part rest : List ℕ) → text ≡ part ++ rest → 0 < length rest → IsFront part text
front_of text part [] e h = absurd (omega (arith, h))
front_of text part (b ∷ bs) e h = record { next = b; others = bs; text_is = e }

-- what was written, whether or not the write failed
pub written_of : {T E : Type 0} (text : List ℕ) (x y : Option (List ℕ)) (result : Result T E) → Writes text x y result → (written : List ℕ) × Appends x y written × ((written ≡ text) ⊎ IsFront written text)
written_of text x y (Ok u) h = (text, h, inl refl)
written_of text x y (Err e) h = (h.0, h.1, inr h.2)

-- what a write took; one that failed took nothing
pub took : {E : Type 0} (x y : Option (List ℕ)) (result : Result ℕ E) (bytes : List ℕ) → WriteAppends x y result bytes → Appends x y (take (result_unwrap_or result 0) bytes)
took x y (Ok n) bytes h = h
took x y (Err e) bytes h = Appends-kept x x y [] (Appends-nil x) h

pub took_at_most : {E : Type 0} (result : Result ℕ E) (bytes : List ℕ) → WritesAtMost result bytes → result_unwrap_or result 0 ≤ length bytes
took_at_most (Ok n) bytes h = h
took_at_most (Err e) bytes h = omega arith
