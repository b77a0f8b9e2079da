-- What an answer that is a pair says of its key: one that was taken, the nearest one, a place, an order, a hash.
use Rattle.std.proofs.Common.{◌≡◌, ◌++◌, List, [], ◌∷◌, Option, Some, None, option_map, flat_map, append-nil, refl, sym, ap, ◌∙◌, is_lt, is_gt, is_eq, Ordering, Less, Equal, Greater}
use Rattle.tree_model.proofs.Common.{map-append}
use Rattle.tree_leaf.proofs.ChainCommon.{first_of, last_of}
use Rattle.std.specs.Cmp.Lexicographic.{slice_cmp, slice_partial_cmp}
use Rattle.std.specs.Hash.{HashWrites}
use Rattle.std.specs.Map.Iter.{TakesFirst, TakesLast}
use Rattle.std.specs.Option.{option_or}
use Rattle.std.specs.Ordering.{ordering_then, partial_ordering_then}
use Rattle.std.proofs.lemmas.List.{length-map}
use Rattle.tree_index.specs.Hashed.{counted}
use Rattle.tree_index.specs.Nearest as nearest
use Rattle.tree_set.specs.Sets.{at_or_above, at_or_below, element_at, in_pairs, keys_of}
use Rattle.tree_set.proofs.Keys.{first_key, keys-filter, keys-find, last_key}
use Rattle.tree_model.specs.Pairs as pairs

-- the key of a pair, if there is one
abbrev pub key_of : {K V : Type 0} → Option (K × V) → Option K
key_of r = option_map (λ pair. pair.0) r

module _ {K V : Type 0} (cmp : K → K → Ordering) (l : List (K × V)) (k : K) where
  pub taken_key : (r : Option (K × V)) → r ≡ pairs.pair_at cmp l k → key_of r ≡ element_at cmp (keys_of l) k
  taken_key r is = ap key_of is ∙ keys-find (λ x. is_eq (cmp x k)) l

  key_of_either : (a b : Option (K × V)) → key_of (option_or a b) ≡ option_or (key_of a) (key_of b)
  key_of_either None b = refl
  key_of_either (Some p) b = refl

  nearest_key : (a b : Option (K × V)) (x y : Option K) → key_of a ≡ x → key_of b ≡ y → key_of (option_or a b) ≡ option_or x y
  nearest_key a b x y first second = key_of_either a b ∙ ap (λ (c : Option K). option_or c (key_of b)) first ∙ ap (λ (c : Option K). option_or x c) second

  pub key_below : key_of (nearest.at_or_below cmp l k) ≡ at_or_below cmp (keys_of l) k
  key_below =
      nearest_key _ _ _ _ (keys-find (λ x. is_eq (cmp x k)) l) (last_key (pairs.below cmp l k) ∙ ap (λ (m : List K). last_of m) (keys-filter (λ x. is_lt (cmp x k)) l))

  pub key_above : key_of (nearest.at_or_above cmp l k) ≡ at_or_above cmp (keys_of l) k
  key_above =
      nearest_key _ _ _ _ (keys-find (λ x. is_eq (cmp x k)) l) (first_key (pairs.above cmp l k) ∙ ap (λ (m : List K). first_of m) (keys-filter (λ x. is_gt (cmp x k)) l))

-- pairs of `()` are their keys, each with `()`
module _ {K : Type 0} where
  pub pairs_again : (l : List (K × Unit {0})) → in_pairs (keys_of l) ≡ l
  pairs_again [] = refl
  pairs_again (p ∷ ps) = ap (λ (l : List (K × Unit {0})). p ∷ l) (pairs_again ps)

  pub keys_again : (l : List K) → keys_of (in_pairs l) ≡ l
  keys_again [] = refl
  keys_again (x ∷ xs) = ap (λ (l : List K). x ∷ l) (keys_again xs)

same_then : (o : Ordering) → ordering_then o Equal ≡ o
same_then Less = refl
same_then Equal = refl
same_then Greater = refl

same_partial : (o : Option Ordering) → partial_ordering_then o (Some Equal) ≡ o
same_partial None = refl
same_partial (Some Less) = refl
same_partial (Some Equal) = refl
same_partial (Some Greater) = refl

-- lists of pairs whose values are all equal compare as their keys do
module _ {K V : Type 0} where
  pub keys_order : (c : K → K → Ordering) (d : V → V → Ordering) → ((u v : V) → d u v ≡ Equal) → (l m : List (K × V)) → slice_cmp (λ p q. ordering_then (c p.0 q.0) (d p.1 q.1)) l m ≡ slice_cmp c (keys_of l) (keys_of m)
  keys_order c d same [] [] = refl
  keys_order c d same [] (q ∷ qs) = refl
  keys_order c d same (p ∷ ps) [] = refl
  keys_order c d same (p ∷ ps) (q ∷ qs) = rw (same p.1 q.1, same_then (c p.0 q.0), keys_order c d same ps qs) refl

  pub keys_partial : (c : K → K → Option Ordering) (d : V → V → Option Ordering) → ((u v : V) → d u v ≡ Some Equal) → (l m : List (K × V)) → slice_partial_cmp (λ p q. partial_ordering_then (c p.0 q.0) (d p.1 q.1)) l m ≡ slice_partial_cmp c (keys_of l) (keys_of m)
  keys_partial c d same [] [] = refl
  keys_partial c d same [] (q ∷ qs) = refl
  keys_partial c d same (p ∷ ps) [] = refl
  keys_partial c d same (p ∷ ps) (q ∷ qs) = rw (same p.1 q.1, same_partial (c p.0 q.0), keys_partial c d same ps qs) refl

  -- values that feed nothing
  keys_fed : (F : K → HashWrites) (G : V → HashWrites) → ((v : V) → G v ≡ []) → (l : List (K × V)) → flat_map (λ p. F p.0 ++ G p.1) l ≡ flat_map F (keys_of l)
  keys_fed F G none [] = refl
  keys_fed F G none (p ∷ ps) = rw (none p.1, append-nil (F p.0)) (ap (λ (w : HashWrites). F p.0 ++ w) (keys_fed F G none ps))

  pub keys_counted : (F : K → HashWrites) (G : V → HashWrites) → ((v : V) → G v ≡ []) → (l : List (K × V)) → counted (λ p. F p.0 ++ G p.1) l ≡ counted F (keys_of l)
  keys_counted F G none l = rw (length-map l (λ p. p.0), keys_fed F G none l) refl
