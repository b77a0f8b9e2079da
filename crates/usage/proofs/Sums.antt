-- A sum that stops at a greatest number.
use Rattle.std.proofs.Common.{◌≡◌, ℕ, ◌+◌, ◌≤◌, List, [], ap, arith, min, sum}

-- nothing is left to add
pub sum_none : (most so_far : ℕ) (left : List ℕ) → left ≡ [] → so_far ≤ most → so_far ≡ min (so_far + sum left) most
sum_none most so_far left is few =
    let none : sum left ≡ 0 = ap sum is in
    omega (arith, few, none)
