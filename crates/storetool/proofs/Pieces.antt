-- What a read left in a vector.
use Rattle.std.proofs.Common.{◌≡◌, ℕ, List, [], ◌∷◌, ◌++◌, length, take, refl, ap}

front : (bytes behind : List ℕ) → take (length bytes) (bytes ++ behind) ≡ bytes
front [] behind = refl
front (b ∷ bytes) behind = ap (λ t. b ∷ t) (front bytes behind)

-- a piece takes up the vector that it was read into
pub whole : (bytes behind : List ℕ) (len : ℕ) → length bytes ≡ len → take len (bytes ++ behind) ≡ bytes
whole bytes behind len is = rw (← is) (front bytes behind)
