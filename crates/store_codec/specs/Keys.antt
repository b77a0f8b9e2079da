-- Keys that are seen alike compare equal.
use Rattle.std.specs.Prelude.{◌≡◌, ℕ, ℤ, Bool}
use Rattle.std.specs.declared.cmp.Ordering.TheVariants.{Equal}
use Rattle.std.specs.Ordering.{nat_cmp, int_cmp, bool_cmp}
use Rattle.std.proofs.Common.{sym}
use Rattle.tree_model.specs.Keys.{equal_booleans, equal_integers, equal_numbers}

pub seen_numbers : (x y : ℕ) → x ≡ y → nat_cmp x y ≡ Equal
seen_numbers x y same = equal_numbers x y (sym same)

pub seen_booleans : (x y : Bool) → x ≡ y → bool_cmp x y ≡ Equal
seen_booleans x y same = equal_booleans x y (sym same)

pub seen_integers : (x y : ℤ) → x ≡ y → int_cmp x y ≡ Equal
seen_integers x y same = equal_integers x y (sym same)
