-- What the items of a basket have in common.
use Rattle.std.specs.Prelude.{ℕ, Bool, true, ◌&&◌, List, [], ◌∷◌, Option, unwrap_or}
use Rattle.std.specs.Option.{option_map}

-- a price, or nothing
abbrev pub or_nothing : Option ℕ → ℕ
or_nothing price = unwrap_or price 0

-- the price of an offer, or nothing
abbrev pub key_or_nothing : Option (ℕ × ℕ) → ℕ
key_or_nothing offer = or_nothing (option_map (λ pair. pair.0) offer)

abbrev pub are_all_true : List Bool → Bool
are_all_true [] = true
are_all_true (b ∷ bs) = b && are_all_true bs
