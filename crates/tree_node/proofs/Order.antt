-- What a total order says of keys up to one another.
use Rattle.std.proofs.Common.{◌≡◌, true, false, arith, refl, Ordering, Less, is_le, is_ge}
use Rattle.tree_node.proofs.Words.{IsTotalOrder, alike, alike_after}

pub less_from_no_ge : (c : Ordering) → is_ge c ≡ false → c ≡ Less
less_from_no_ge c h = grind arith

module _ {K : Type 0} {cmp : K → K → Ordering} (o : IsTotalOrder cmp) where
  pub upto_less : (x y z : K) → is_le (cmp x y) ≡ true → cmp y z ≡ Less → cmp x z ≡ Less
  upto_less x y z le lt = grind (arith, o.trans x y z, alike o x y z Less)

  pub less_upto : (x y z : K) → cmp x y ≡ Less → is_le (cmp y z) ≡ true → cmp x z ≡ Less
  less_upto x y z lt le = grind (arith, o.trans x y z, alike_after o y z x Less)

  pub upto_from_less : (x y : K) → cmp x y ≡ Less → is_le (cmp x y) ≡ true
  upto_from_less x y lt = rw lt refl

  -- a key that a separator isn't less than is at most it
  pub upto_from_test : (s k : K) → is_ge (cmp s k) ≡ true → is_le (cmp k s) ≡ true
  upto_from_test s k h = grind (arith, o.antisymm k s)

  pub less_from_test : (s k : K) → is_ge (cmp s k) ≡ false → cmp s k ≡ Less
  less_from_test s k h = less_from_no_ge (cmp s k) h
