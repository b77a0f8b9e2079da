-- The edits of a list of pairs keep it ascending.
use Rattle.std.proofs.Common.{◌≡◌, ◌∙◌, sym, true, Bool, List, [], ◌∷◌, ◌++◌, filter, Ordering, Less, Equal, Greater, is_lt, is_gt, arith}
use Rattle.std.proofs.lemmas.Bool.{cases_Bool}
use Rattle.tree_model.proofs.Common.{Bound, IsTotalOrder, AllByRecursion, AllLarger, IsAscending, below, above, put, without, cut}
use Rattle.tree_model.proofs.Order.{less_from_greater}
use Rattle.tree_model.proofs.Lists.{all_map, all-append, all-filter, all_passed}
use Rattle.tree_model.proofs.LookUps.{larger_trans, pair_at-put, same_look_ups}
pub use Rattle.tree_model.proofs.LookUps.{all_above, without_first}

-- an answer that a test takes for smaller, or for larger, is that
pub less_from_test : (c : Ordering) → is_lt c ≡ true → c ≡ Less
less_from_test c h = grind arith

pub greater_from_test : (c : Ordering) → is_gt c ≡ true → c ≡ Greater
greater_from_test c h = grind arith

module _ {K V : Type 0} (cmp : K → K → Ordering) where
  pub IsAscending-filter : (test : K × V → Bool) (l : List (K × V)) → IsAscending cmp l → IsAscending cmp (filter test l)
  IsAscending-filter test [] h = tt
  IsAscending-filter test (p ∷ ps) h = grind (arith, cases_Bool, all-filter, IsAscending-filter test ps h.1)

  -- two ascending lists, each key of the first smaller than every key of the second
  pub IsAscending-append : (xs ys : List (K × V)) → IsAscending cmp xs → IsAscending cmp ys → AllByRecursion (λ p. AllLarger cmp p.0 ys) xs → IsAscending cmp (xs ++ ys)
  IsAscending-append [] ys h i parted = i
  IsAscending-append (p ∷ ps) ys h i parted = (all-append _ ps ys h.0 parted.0, IsAscending-append ps ys h.1 i parted.1)

  -- an edit that only takes pairs away
  pub IsAscending-cut : (l : List (K × V)) (low high : Bound K) → IsAscending cmp l → IsAscending cmp (cut cmp l low high)
  IsAscending-cut l low high h = IsAscending-filter _ l h

module _ {K V : Type 0} {cmp : K → K → Ordering} (o : IsTotalOrder cmp) where
  -- the pairs above k are larger than k, and those below it smaller
  pub above_larger : (l : List (K × V)) (k : K) → AllLarger cmp k (above cmp l k)
  above_larger l k = all_passed _ _ (λ p passes. less_from_greater o p.0 k (greater_from_test _ passes)) l

  pub below_smaller : (l : List (K × V)) (k : K) → AllByRecursion (λ p. cmp p.0 k ≡ Less) (below cmp l k)
  below_smaller l k = all_passed _ _ (λ p passes. less_from_test _ passes) l

  -- what is put keeps the order
  pub IsAscending-put : (l : List (K × V)) (k : K) (v : V) → IsAscending cmp l → IsAscending cmp (put cmp l k v)
  IsAscending-put l k v h =
      IsAscending-append cmp (below cmp l k) ((k, v) ∷ above cmp l k) (IsAscending-filter cmp _ l h) (above_larger l k, IsAscending-filter cmp _ l h)
      (all_map (λ p less. (less, larger_trans o p.0 k (above cmp l k) less (above_larger l k))) (below cmp l k) (below_smaller l k))

  pub IsAscending-without : (l : List (K × V)) (k : K) → IsAscending cmp l → IsAscending cmp (without cmp l k)
  IsAscending-without l k h =
      IsAscending-append cmp (below cmp l k) (above cmp l k) (IsAscending-filter cmp _ l h) (IsAscending-filter cmp _ l h)
      (all_map (λ p less. larger_trans o p.0 k (above cmp l k) less (above_larger l k)) (below cmp l k) (below_smaller l k))

  -- a pair that is put where one with an equal key was put takes its place
  pub put_again : (l : List (K × V)) (j k : K) (u v : V) → IsAscending cmp l → cmp j k ≡ Equal → put cmp (put cmp l j u) k v ≡ put cmp l k v
  put_again l j k u v h equal =
      same_look_ups o _ _ (IsAscending-put (put cmp l j u) k v (IsAscending-put l j u h)) (IsAscending-put l k v h) (λ key.
      pair_at-put o key (put cmp l j u) k v
      ∙ rw (pair_at-put o key l j u, o.congr j k key equal) (grind arith)
      ∙ sym (pair_at-put o key l k v))

pub ruleset order_kept = (IsAscending-put, IsAscending-without, IsAscending-cut)
