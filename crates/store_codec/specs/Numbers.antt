-- Whole numbers and `bool` as bytes, the lowest first.
use Rattle.std.specs.Prelude.{◌≡◌, ℕ, ℤ, ◌==◌, nat_le, nat_lt, Bool, true, false, ◌&&◌, ◌||◌, if◌then◌else◌, List, [], ◌∷◌, length, take, drop, Option, Some, None}
use Rattle.std.specs.Int.{Width, w32, cast_signed, cast_unsigned, from_le_bytes, to_le_bytes}

abbrev pub byte_bytes : ℕ → List ℕ
byte_bytes n = n ∷ []

abbrev pub byte_at_front : List ℕ → Option (ℕ × List ℕ)
byte_at_front [] = None
byte_at_front (b ∷ rest) = Some (b, rest)

-- a number of k bytes
abbrev pub number_at : Width → ℕ → List ℕ → Option (ℕ × List ℕ)
number_at w k bytes = if nat_le k (length bytes) then Some (from_le_bytes w (take k bytes), drop k bytes) else None

abbrev pub bool_bytes : Bool → List ℕ
bool_bytes b = (if b then 1 else 0) ∷ []

abbrev pub bool_at : List ℕ → Option (Bool × List ℕ)
bool_at [] = None
bool_at (b ∷ rest) = if b == 0 then Some (false, rest) else if b == 1 then Some (true, rest) else None

-- a signed number has the bytes of the unsigned one with the same bits
abbrev pub integer_bytes : Width → ℤ → List ℕ
integer_bytes w x = to_le_bytes w (cast_unsigned w x)

abbrev pub integer_at : Width → ℕ → List ℕ → Option (ℤ × List ℕ)
integer_at w k bytes = if nat_le k (length bytes) then Some (cast_signed w (from_le_bytes w (take k bytes)), drop k bytes) else None

-- a code that a `char` has
abbrev pub scalar_with : ℕ → List ℕ → Option (ℕ × List ℕ)
scalar_with code rest = if nat_lt code 55296 || (nat_lt 57343 code && nat_lt code 1114112) then Some (code, rest) else None

abbrev pub char_at : List ℕ → Option (ℕ × List ℕ)
char_at bytes = if nat_le 4 (length bytes) then scalar_with (from_le_bytes w32 (take 4 bytes)) (drop 4 bytes) else None
