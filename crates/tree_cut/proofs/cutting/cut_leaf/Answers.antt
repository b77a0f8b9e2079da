use Rattle.tree_cut.proofs.Common.{◌≡◌, ℕ, ◌-◌, ◌≤◌, not, length, Some, refl, ap, arith, Ordering, Bound, cut, within, Arrivals, all-filter, get, LeafOf, TreeArenas, without_range, CutsUnder, length-filter_both, IsAscending-cut, walk-leaf, with_array, here_now, array_replaces, rules, fits}
use Rattle.tree_cut.proofs.cutting.cut_leaf.Goals as goal

range_few : {K V : Type 0} (cmp : K → K → Ordering) (low high : Bound K) (old : Arrivals K V) {array : Arrivals K V}
    → array ≡ without_range cmp old low high → length array.entries ≤ length old.entries
range_few cmp low high old left =
    omega (arith, ap (λ (x : Arrivals _ _). length x.entries) left, length-filter_both (λ p. not (within cmp low high p.0)) _ (λ p. refl) old.entries)

leaf_cut : {K V : Type 0} {LEN : ℕ} (cmp : K → K → Ordering) (low high : Bound K) (a : TreeArenas K V LEN) (id : ℕ) {leaf : LeafOf K V LEN} {array : Arrivals K V}
    → get a.leaves id ≡ Some leaf → array ≡ without_range cmp leaf.array low high → (gone : ℕ) → gone ≡ length leaf.array.entries - length array.entries
    → CutsUnder cmp low high 0 a (with_array a id leaf array) id gone
leaf_cut cmp low high a id {leaf} {array} was left gone is =
    let are : array.entries ≡ cut cmp leaf.array.entries low high = rw left refl in
    let now = walk-leaf (with_array a id leaf array) id _ (here_now a id leaf array was) in
    record {
      pairs = rw (walk-leaf a id leaf was, now) are;
      counted = rw (walk-leaf a id leaf was, now) (omega (arith, is, range_few cmp low high leaf.array left));
      stands = λ above below s.
          let same : s.leaf ≡ leaf = cc (s.here, was) in
          record {
            leaf = record leaf { array = array };
            here = here_now a id leaf array was;
            few = omega (arith, rw same at s.few, range_few cmp low high leaf.array left);
            ascending = rw are (IsAscending-cut cmp leaf.array.entries low high (rw same at s.ascending));
            above = rw are (all-filter _ _ leaf.array.entries (rw same at s.above));
            up_to = rw are (all-filter _ _ leaf.array.entries (rw same at s.up_to));
          };
      replaces = array_replaces a id leaf array was;
      no_empty = λ before. tt;
    }

pub leaf_mut-requires : goal.leaf_mut-requires
leaf_mut-requires g c = (search rules, (search fits, c.requires))

pub overflow_sub-result : goal.overflow_sub-result
overflow_sub-result g c = omega (arith, c.len.ensures, c.len-before.ensures, range_few g.K.Ord.cmp _ _ _ c.remove_range.ensures)

pub returns : goal.returns
returns g c =
    let same = c.array_mut-array.ensures.value in
    leaf_cut g.K.Ord.cmp _ _ c.args.arenas.now c.args.id c.leaf_mut.ensures.value (rw same at c.remove_range.ensures) _
    (rw (c.len.ensures, c.len-before.ensures, same) refl)
