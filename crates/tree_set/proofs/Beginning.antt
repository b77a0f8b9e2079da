-- Prefixes: what a removal of pairs by a prefix says of their keys.
use Rattle.std.proofs.Common.{◌≡◌, ℕ, List, [], Bool, Result, Ok, Err, not, sym, ap, ◌∙◌}
use Rattle.std.specs.List.{starts_with}
use Rattle.std.specs.Prelude.{◌↔◌, ◌≢◌, IfOk, IsTrue, nat_eq}
use Rattle.std.specs.declared.alloc.AllocError.{AllocError}
use Rattle.tree_set.specs.Sets.{beginning_with, keys_of, not_beginning_with}
use Rattle.tree_set.proofs.Keys.{keys-filter, keys-none}
use Rattle.tree_texts.specs.Prefix as pairs

module _ {V : Type 0} (prefix : List ℕ) (old new : List (List ℕ × V)) where
  begins : keys_of (pairs.beginning_with prefix old) ≡ beginning_with prefix (keys_of old)
  begins = keys-filter (λ key. starts_with nat_eq key prefix) old

  pub removed : (result : Result Bool AllocError) → IfOk result (λ _. new ≡ pairs.not_beginning_with prefix old) → IfOk result (λ _. keys_of new ≡ not_beginning_with prefix (keys_of old))
  removed (Ok answer) is = ap keys_of is ∙ keys-filter (λ key. not (starts_with nat_eq key prefix)) old
  removed (Err error) is = tt

  pub found : (result : Result Bool AllocError) → IfOk result (λ some. IsTrue some ↔ (pairs.beginning_with prefix old ≢ [])) → IfOk result (λ some. IsTrue some ↔ (beginning_with prefix (keys_of old) ≢ []))
  found (Ok some) is = (λ yes none. is.0 yes (keys-none (pairs.beginning_with prefix old) (begins ∙ none)), λ more. is.1 (λ none. more (sym begins ∙ ap keys_of none)))
  found (Err error) is = tt
