-- Prefixes: what is between one and its end, how long the end is, and how many pairs go with it.
use Rattle.std.proofs.Common.{◌≡◌, ℕ, ◌+◌, ◌-◌, ◌^◌, ◌<◌, ◌≤◌, List, [], ◌∷◌, length, min, not, refl, arith, inl, inr}
use Rattle.std.proofs.lemmas.Bool.{cases_Bool}
use Rattle.std.proofs.lemmas.List.Filters.{length-filter_both}
use Rattle.std.specs.List.{starts_with}
use Rattle.std.specs.Prelude.{nat_eq}
use Rattle.tree_model.proofs.Common.{Bound, Included, Excluded, Unbounded}
use Rattle.tree_index_c.specs.Prefixes.{EndsPrefix, IsEnd}
use Rattle.tree_texts.specs.Prefix.{beginning_with, end_of, not_beginning_with, raised}
use Rattle.tree_texts.proofs.Prefixes.{prefix_all, prefix_within}

step : (byte : ℕ) (bytes : List ℕ) (end : Bound (List ℕ)) → IsEnd bytes end → IsEnd (byte ∷ bytes) (raised byte end)
step byte bytes (Included end) is = absurd is
step byte bytes (Excluded end) is = omega (arith, is)
step byte bytes Unbounded is = elim (cases_Bool (nat_eq byte 255)) [ inl last ↦ rw last tt | inr below ↦ rw below (omega arith) ]

end_is_end : (prefix : List ℕ) → IsEnd prefix (end_of prefix)
unfolding end_of
end_is_end [] = tt
end_is_end (byte ∷ bytes) = step byte bytes (end_of bytes) (end_is_end bytes)

pub ends_prefix : (prefix : List ℕ) → EndsPrefix prefix (end_of prefix)
ends_prefix prefix = record { bounds = record { low = refl; all = prefix_all prefix; exact = prefix_within prefix }; short = end_is_end prefix }

-- what is removed with a prefix, and what is left
module _ (prefix : List ℕ) (old new : List (List ℕ × ℕ)) (left : new ≡ not_beginning_with prefix old) where
  both : length (beginning_with prefix old) + length new ≡ length old
  both = rw left (length-filter_both (λ pair. starts_with nat_eq pair.0 prefix) (λ pair. not (starts_with nat_eq pair.0 prefix)) (λ pair. refl) old)

  module _ (before after : ℕ) (was : before ≡ min (length old) (2 ^ 64 - 1)) (is : after ≡ min (length new) (2 ^ 64 - 1)) where
    pub shrinks : after ≤ before
    shrinks = omega (arith, was, is, both)

    pub counts : length old < 2 ^ 64 → before - after ≡ length (beginning_with prefix old)
    counts few = omega (arith, was, is, both, few)
