-- What a list feeds a hasher whose length may be larger than a `usize` holds.
use Rattle.std.specs.Prelude.{◌≡◌, ℕ, ◌-◌, ◌^◌, Bool, true, List, ◌++◌, length, drop, min}
use Rattle.std.specs.Cmp.Lexicographic.{as_long, pointwise}
use Rattle.std.specs.Hash.{Alike, HashWrites, items_Alike, usize}
use Rattle.std.specs.List.{flat_map}
use Rattle.std.proofs.Common.{ap, ◌∙◌}

-- the length, or the largest `usize`, and then each element
abbrev pub counted : {X : Type 0} → (X → HashWrites) → List X → HashWrites
counted F xs = usize (min (length xs) (2 ^ 64 - 1)) ++ flat_map F xs

-- elements that are equal one by one are fed alike
pub counted_alike : {X : Type 0} {E : X → X → Bool} {F : X → HashWrites} → Alike E F → (xs ys : List X) → pointwise E xs ys ≡ true → counted F xs ≡ counted F ys
counted_alike {E = E} {F = F} alike xs ys same =
    ap (λ (n : ℕ). usize (min n (2 ^ 64 - 1)) ++ flat_map F xs) (as_long E xs ys same)
    ∙ ap (λ (fed : HashWrites). usize (min (length ys) (2 ^ 64 - 1)) ++ drop 1 fed) ((items_Alike alike).fed xs ys same)
