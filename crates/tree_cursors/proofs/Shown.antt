-- What the ends of a cursor stand on in its tree.
use Rattle.tree_cursors.proofs.RangesCommon.{◌≡◌, ℕ, Bool, Option, Some, None, refl, sym, ◌∙◌, is_lt, Ordering, IsTotalOrder, Included, IsAscending, element_at, next_end, unopened, EndStands}
use Rattle.tree_cursors.proofs.RangesCommon.{IsTree, Kept, LeafWalk, On, TreeArenas, are_apart, end_of, is_new, is_unopened, located, pair_of, placed_in, stood_on, walk}
use Rattle.tree_cursors.proofs.RangesCommon.{false, if◌then◌else◌, is_some, is_at, located_beside, located_past, walk_under, root_stands, places_compare, Unopened, At, Exhausted, Root}
use Rattle.tree_cursors.proofs.RangesCommon.{zero, suc, ◌<◌, arith, inl, inr, StandsOrRetired, get, no_children, walk_ascends}
use Rattle.tree_cursors.specs.declared.end.End.{End as TreeEnd}
use Rattle.tree_cursors.proofs.Nearest.{located_by, located_is}

-- the entries of a part ascend
pub part_ascends : {K V : Type 0} {LEN : ℕ} {cmp : K → K → Ordering} (o : IsTotalOrder cmp) (a : TreeArenas K V LEN) (id level : ℕ) → 0 < level → StandsOrRetired cmp level a id → IsAscending cmp (walk level a id)
part_ascends o a id zero inner given = absurd (omega arith)
part_ascends o a id (suc level) inner (inl s) = walk_ascends o (suc level) a None id None s
part_ascends o a id (suc level) inner (inr retired) = rw (no_children (get a.nodes id) retired).1 tt

module _ {K V : Type 0} {LEN : ℕ} {cmp : K → K → Ordering} (a : TreeArenas K V LEN) (root : Option Root) (tree : IsTree cmp a root) where
  pub pairs_ascend : IsTotalOrder cmp → IsAscending cmp (walk_under a root)
  pairs_ascend o = (elim root as (λ root. IsTree cmp a root → IsAscending cmp (walk_under a root)) [
    | None ↦ λ tree. tt
    | Some root ↦ λ tree. part_ascends o a root.id root.level tree.top.0 (root_stands a root.id root.level tree)
  ]) tree

  -- the element at an end is the pair that it stands on
  pub element_is : (end : TreeEnd (LeafWalk K V LEN)) → EndStands a root end → element_at (walk_under a root) (end_of a root end) ≡ pair_of end
  element_is Unopened stands = refl
  element_is (At walk) stands = let at = placed_in a root tree walk stands in rw at.place_is (at.there ∙ sym stands.here)
  element_is Exhausted stands = refl

  pub new_is : (end : TreeEnd (LeafWalk K V LEN)) → EndStands a root end → is_unopened (end_of a root end) ≡ is_new end
  new_is Unopened stands = refl
  new_is (At walk) stands = let at = placed_in a root tree walk stands in rw at.place_is refl
  new_is Exhausted stands = refl

  -- where a key is, by the end that a search from the key on has come to
  pub located_in : (o : IsTotalOrder cmp) (k : K) (first : TreeEnd (LeafWalk K V LEN)) → EndStands a root first
      → end_of a root first ≡ next_end cmp On (Included k) (walk_under a root) unopened
      → located_by cmp (walk_under a root) k (end_of a root first) (pair_of first) ≡ located cmp (walk_under a root) k
  located_in o k first stands place = located_is o k (walk_under a root) (pairs_ascend o) (end_of a root first) place _ (element_is first stands)

  pub absent_in : (o : IsTotalOrder cmp) (k : K) (first : TreeEnd (LeafWalk K V LEN)) → EndStands a root first → end_of a root first ≡ next_end cmp On (Included k) (walk_under a root) unopened
      → is_at cmp k (pair_of first) ≡ false → (some : Bool) → is_some (pair_of first) ≡ some
      → (if some then located_beside cmp (walk_under a root) (end_of a root first) else located_past cmp (walk_under a root)) ≡ located cmp (walk_under a root) k
  absent_in o k first stands place absent some is = rw (absent, is) at (located_in o k first stands place)

-- two walks are apart where their keys are in order
pub apart_by_keys : {K V : Type 0} {LEN : ℕ} {cmp : K → K → Ordering} (o : IsTotalOrder cmp) (a : TreeArenas K V LEN) (root : Option Root) (walk other : LeafWalk K V LEN) (result : Bool)
    → ((first second : K × V) → stood_on walk ≡ Some first → stood_on other ≡ Some second → result ≡ is_lt (cmp first.0 second.0))
    → Kept a root cmp (At walk) (At other) → result ≡ are_apart (end_of a root (At walk)) (end_of a root (At other))
apart_by_keys o a root walk other result compares kept =
    let first = placed_in a root kept.tree walk kept.forward_stands in
    let second = placed_in a root kept.tree other kept.backward_stands in
    rw (first.place_is, second.place_is) (
    compares kept.forward_stands.pair kept.backward_stands.pair kept.forward_stands.here kept.backward_stands.here
    ∙ places_compare o (walk_under a root) first.place second.place _ _ (pairs_ascend a root kept.tree o) first.there second.there
    )
