-- A key between the pairs before it and the pairs behind it.
use Rattle.std.proofs.Common.{◌≡◌, List, ◌++◌, ◌∙◌, ap, append_assoc, Ordering, Less, is_eq, is_gt, is_lt, append-nil}
use Rattle.tree_node.proofs.Words.{AllByRecursion, IsTotalOrder, filter-append, AllLarger, above, below, pair_at, put, without, all_map, filter_all, filter_none, all_above}
use Rattle.tree_model.proofs.Lists.{find_after, find_before, find_none}
use Rattle.tree_model.proofs.LookUps.{none_larger}

module _ {K V : Type 0} {cmp : K → K → Ordering} (o : IsTotalOrder cmp) (k : K) (front middle back : List (K × V))
    (smaller : AllByRecursion (λ p. cmp p.0 k ≡ Less) front) (larger : AllLarger cmp k back) where
  -- it is found where it is found in the middle
  pub found_between : pair_at cmp (front ++ (middle ++ back)) k ≡ pair_at cmp middle k
  found_between =
      find_after _ front _ (find_none _ front (all_map (λ p h. ap is_eq h) front smaller))
      ∙ find_before _ middle back (none_larger o k back larger)

  sides_between : (below cmp (front ++ (middle ++ back)) k ≡ front ++ below cmp middle k) × (above cmp (front ++ (middle ++ back)) k ≡ above cmp middle k ++ back)
  sides_between = (
    simp (filter-append, filter_all (λ p. is_lt (cmp p.0 k)) front (all_map (λ p h. ap is_lt h) front smaller), (all_above o k back larger).0, append-nil),
    simp (filter-append, filter_none (λ p. is_gt (cmp p.0 k)) front (all_map (λ p h. ap is_gt h) front smaller), (all_above o k back larger).1),
  )

  -- and removed where it is removed in the middle
  pub without_between : without cmp (front ++ (middle ++ back)) k ≡ front ++ (without cmp middle k ++ back)
  without_between = rw (sides_between.0, sides_between.1) (simp append_assoc)

  -- and put where it is put in the middle
  pub put_between : (v : V) → put cmp (front ++ (middle ++ back)) k v ≡ front ++ (put cmp middle k v ++ back)
  put_between v = rw (sides_between.0, sides_between.1) (simp append_assoc)
