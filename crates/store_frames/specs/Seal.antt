-- A text with its digest behind it.
use Rattle.std.specs.Prelude.{◌≡◌, ℕ, ◌-◌, List, ◌++◌, length, take}
use Rattle.std.specs.List.{AllByRecursion}
use Rattle.std.specs.Int.{w64, to_le_bytes}
use Rattle.sqlite_disk.specs.Digest.{digest}

abbrev pub sealed : ℕ → List ℕ → List ℕ
sealed key text = text ++ to_le_bytes w64 (digest key text)

-- a batch without its seal
abbrev pub text_of : List ℕ → List ℕ
text_of batch = take (length batch - 8) batch

-- the last bytes of each batch are the seal of the others
abbrev pub AreSealed : ℕ → List (List ℕ) → Type 0
AreSealed key batches = AllByRecursion (λ batch. batch ≡ sealed key (text_of batch)) batches
