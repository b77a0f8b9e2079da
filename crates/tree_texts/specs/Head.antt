-- The head of a byte string: its first eight bytes as one number. Zeros stand for the bytes that it lacks.
use Rattle.std.specs.Prelude.{◌≡◌, ℕ, zero, suc, ◌+◌, ◌*◌, ◌<◌, List, slice_index}

-- the first k bytes as a number, the first of them highest
unfoldable pub leading : ℕ → List ℕ → ℕ
leading zero bytes = 0
leading (suc k) bytes = leading k bytes * 256 + slice_index bytes k

abbrev pub head_of : List ℕ → ℕ
head_of bytes = leading 8 bytes

-- each number of the list is a byte
abbrev pub AreBytes : List ℕ → Type 0
AreBytes bytes = (i : ℕ) → slice_index bytes i < 256

-- the number is the head of the list, whose numbers are bytes
pub record HasHead (head : ℕ) (bytes : List ℕ) : Type 0 where
  pub is : head ≡ head_of bytes
  pub all : AreBytes bytes
