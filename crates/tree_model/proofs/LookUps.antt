-- What a look-up finds in a list of pairs after an edit, and that an ascending list is known by its look-ups.
use Rattle.std.proofs.Common.{◌≡◌, Bool, true, if◌then◌else◌, List, [], ◌∷◌, ◌++◌, filter, None, Some, refl, sym, ◌∙◌, ap, not, Ordering, Less, Equal, is_lt, is_eq, is_gt, arith}
use Rattle.tree_model.proofs.Common.{AllByRecursion, Bound, IsAbsent, IsTotalOrder, tied_itself, AllLarger, IsAscending, pair_at, below, above, put, without, within, cut}
use Rattle.std.proofs.lemmas.Option.{none-some}
use Rattle.std.proofs.lemmas.List.Folds.{find-append}
use Rattle.tree_model.proofs.Order.{greater_from_less}
use Rattle.tree_model.proofs.Lists.{all_map, filter_all, filter_none, find_none, find-filter}

-- an answer that a test takes for equal is Equal
pub equal_from_test : (c : Ordering) → is_eq c ≡ true → c ≡ Equal
equal_from_test c h = grind arith

module _ {K V : Type 0} {cmp : K → K → Ordering} (o : IsTotalOrder cmp) (key : K) where
  -- a pair with the key compares with another key as the key does
  as_key : (pair : K × V) (other : K) → is_eq (cmp pair.0 key) ≡ true → cmp pair.0 other ≡ cmp key other
  as_key pair other h = o.congr pair.0 key other (equal_from_test _ h)

  -- the pairs on one side of k that have the key are all or none
  aside : (side : Ordering → Bool) (l : List (K × V)) (k : K) → pair_at cmp (filter (λ p. side (cmp p.0 k)) l) key ≡ (if side (cmp key k) then pair_at cmp l key else None)
  aside side l k = find-filter _ _ (side (cmp key k)) (λ p same. ap side (as_key p k same)) l

  -- the list that is put finds its own pair at its key, and every other pair where it was
  pub pair_at-put : (l : List (K × V)) (k : K) (v : V) → pair_at cmp (put cmp l k v) key ≡ (if is_eq (cmp k key) then Some (k, v) else pair_at cmp l key)
  pair_at-put l k v = grind (arith, find-append (λ p. is_eq (cmp p.0 key)) (below cmp l k) ((k, v) ∷ above cmp l k), aside is_lt l k, aside is_gt l k, o.antisymm k key)

  pub pair_at-without : (l : List (K × V)) (k : K) → pair_at cmp (without cmp l k) key ≡ (if is_eq (cmp k key) then None else pair_at cmp l key)
  pair_at-without l k = grind (arith, find-append (λ p. is_eq (cmp p.0 key)) (below cmp l k) (above cmp l k), aside is_lt l k, aside is_gt l k, o.antisymm k key)

  -- a pair with the key is within the bounds exactly if the key is
  pub same_within : (low high : Bound K) (pair : K × V) → is_eq (cmp pair.0 key) ≡ true → within cmp low high pair.0 ≡ within cmp low high key
  same_within low high pair h = grind arith

  -- a key is in what is cut exactly where it was in the list and isn't within the bounds
  pub pair_at-cut : (l : List (K × V)) (low high : Bound K) → pair_at cmp (cut cmp l low high) key ≡ (if within cmp low high key then None else pair_at cmp l key)
  pair_at-cut l low high =
      let found = find-filter (λ p. is_eq (cmp p.0 key)) _ (not (within cmp low high key)) (λ p same. ap not (same_within low high p same)) l in grind arith

-- a key larger than all is absent
pub absent_beyond : {K V : Type 0} (cmp : K → K → Ordering) (l : List (K × V)) (key : K) → AllByRecursion (λ p. cmp p.0 key ≡ Less) l → IsAbsent cmp l key
absent_beyond cmp l key smaller = find_none (λ p. is_eq (cmp p.0 key)) l (all_map (λ p less. ap is_eq less) l smaller)

-- and its pair is put at the end
pub put_beyond : {K V : Type 0} (cmp : K → K → Ordering) (l : List (K × V)) (key : K) (val : V) → AllByRecursion (λ p. cmp p.0 key ≡ Less) l → put cmp l key val ≡ l ++ (key, val) ∷ []
put_beyond cmp l key val smaller = grind (arith, all_map, filter_all, filter_none)

module _ {K V : Type 0} {cmp : K → K → Ordering} (o : IsTotalOrder cmp) where
  -- no key is found below all
  pub none_larger : (key : K) (l : List (K × V)) → AllLarger cmp key l → pair_at cmp l key ≡ None
  none_larger key l h = find_none _ l (all_map (λ p less. ap is_eq (greater_from_less o key p.0 less)) l h)

  pub larger_trans : (small key : K) (l : List (K × V)) → cmp small key ≡ Less → AllLarger cmp key l → AllLarger cmp small l
  larger_trans small key l less h = all_map (λ p later. o.trans small key p.0 less later) l h

  -- the first pair is found at its key
  pub found_first : (p : K × V) (l : List (K × V)) → pair_at cmp (p ∷ l) p.0 ≡ Some p
  found_first p l = rw (tied_itself o p.0) refl

  -- where all are larger than k, none is below it
  pub all_above : (k : K) (l : List (K × V)) → AllLarger cmp k l → (below cmp l k ≡ []) × (above cmp l k ≡ l)
  all_above k [] later = (refl, refl)
  all_above k (p ∷ ps) later = let rest = all_above k ps later.1 in rw (greater_from_less o k p.0 later.0) (rest.0, ap (λ (r : List (K × V)). p ∷ r) rest.1)

  pub without_first : (p : K × V) (ps : List (K × V)) → IsAscending cmp (p ∷ ps) → without cmp (p ∷ ps) p.0 ≡ ps
  without_first p ps ascending = let rest = all_above p.0 ps ascending.0 in rw (tied_itself o p.0, rest.0, rest.1) refl

  after_first : (p : K × V) (ps : List (K × V)) → IsAscending cmp (p ∷ ps) → (key : K) → pair_at cmp ps key ≡ (if is_eq (cmp p.0 key) then None else pair_at cmp (p ∷ ps) key)
  after_first p ps ascending key = ap (λ l. pair_at cmp l key) (sym (without_first p ps ascending)) ∙ pair_at-without o key (p ∷ ps) p.0

  -- two ascending lists in which each look-up finds the same are one
  pub same_look_ups : (xs ys : List (K × V)) → IsAscending cmp xs → IsAscending cmp ys → ((key : K) → pair_at cmp xs key ≡ pair_at cmp ys key) → xs ≡ ys
  same_look_ups [] [] h i same = refl
  same_look_ups [] (q ∷ ys) h i same = absurd (none-some q (same q.0 ∙ found_first q ys))
  same_look_ups (p ∷ xs) [] h i same = absurd (none-some p (sym (same p.0) ∙ found_first p xs))
  same_look_ups (p ∷ xs) (q ∷ ys) h i same =
      let rest = λ (one : p ≡ q). same_look_ups xs ys h.1 i.1 (λ key. let found = same key in grind (arith, after_first p xs h key, after_first q ys i key, one, found)) in
      let less = λ (e : cmp q.0 p.0 ≡ Less). none_larger q.0 (p ∷ xs) (e, larger_trans q.0 p.0 xs e h.0) in
      let more = λ (e : cmp p.0 q.0 ≡ Less). none_larger p.0 (q ∷ ys) (e, larger_trans p.0 q.0 ys e i.0) in
      grind (arith, rest, less, more, same p.0, same q.0, o.antisymm p.0 q.0, found_first p xs, found_first q ys)
