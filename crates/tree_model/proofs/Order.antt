-- What a total order says of two keys turned round, and of three.
use Rattle.std.proofs.Common.{◌≡◌, ◌∙◌, sym, ap, Ordering, Less, Equal, Greater}
use Rattle.tree_model.proofs.Common.{IsTotalOrder, alike_right}
use Rattle.std.specs.Ordering.{ordering_reverse}

module _ {K : Type 0} {cmp : K → K → Ordering} (o : IsTotalOrder cmp) where
  -- x is smaller than y, so y is larger than x
  pub greater_from_less : (x y : K) → cmp x y ≡ Less → cmp y x ≡ Greater
  greater_from_less x y h = o.antisymm y x ∙ ap ordering_reverse h

  -- x is larger than y, so y is smaller than x
  pub less_from_greater : (x y : K) → cmp x y ≡ Greater → cmp y x ≡ Less
  less_from_greater x y h = o.antisymm y x ∙ ap ordering_reverse h

  pub greater_trans : (x y z : K) → cmp x y ≡ Greater → cmp y z ≡ Greater → cmp x z ≡ Greater
  greater_trans x y z h i = greater_from_less z x (o.trans z y x (less_from_greater y z i) (less_from_greater x y h))

  -- a key that equals x compares as x does, on either side
  pub alike : (x y z : K) (c : Ordering) → cmp x y ≡ Equal → cmp y z ≡ c → cmp x z ≡ c
  alike x y z c same h = o.congr x y z same ∙ h

  pub alike_after : (x y z : K) (c : Ordering) → cmp x y ≡ Equal → cmp z x ≡ c → cmp z y ≡ c
  alike_after x y z c same h = sym (alike_right o x y z same) ∙ h
