-- How many comparisons a way down makes, one array a level.
use Rattle.std.proofs.Common.{ℕ, ◌+◌, ◌-◌, ◌*◌, ◌<◌, ◌≤◌, arith, add-one, mul-suc}

-- one array is asked at a level, and one at each below it may be still
pub asked_on : (len above x y most : ℕ) → 0 < above → x + len * above ≤ most → y ≤ x + len → y + len * (above - 1) ≤ most
asked_on len above x y most inner before asked = grind arith

-- or it is the last one
pub asked_last : (len above x y most : ℕ) → 0 < above → x + len * above ≤ most → y ≤ x + len → y ≤ most
asked_last len above x y most inner before asked = omega (arith, asked_on len above x y most inner before asked)

-- and the leaf
pub leaf_asked : (len level x y z : ℕ) → y ≤ x + len * level → z ≤ y + len → z ≤ x + len * (level + 1)
leaf_asked len level x y z first second = rw (add-one, mul-suc) (omega (arith, first, second))
