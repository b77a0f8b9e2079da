-- A removal in a leaf.
use Rattle.tree_remove.proofs.Common.{AllByRecursion, Arrivals, Bool, Fail, IfSome, IsAbsent, IsRemoval, IsRetired, IsTotalOrder, KeepsBounds, LeafOf, List, None, Option, Ordering, RemoveResult}
use Rattle.tree_remove.proofs.Common.{RemovesUnder, Some, Success, TakesOut, TreeArenas, [], all-append, all-filter, ap, arith, cases_Bool, false, found_free, get, inl, inr, length}
use Rattle.tree_remove.proofs.Common.{nat_tests, pair_at, refl, removal_of, removed, spent_at, true, walk, walk-leaf, without, without_few, ℕ, ◌-◌, ◌∙◌, ◌≡◌}
use Rattle.std.proofs.lemmas.List.{length-map}
use Rattle.tree_model.proofs.Common.{nil_from_length}
use Rattle.tree_model.proofs.Ascending.{IsAscending-without}
use Rattle.tree_node.proofs.LeafSpares.{free_within, spare_removed, spare_retired}
use Rattle.tree_node.proofs.LeafWrites.{array_replaces, here_now, updated, with_array}

all_without : {K V : Type 0} (cmp : K → K → Ordering) (P : K × V → Type 0) (pairs : List (K × V)) (key : K) → AllByRecursion P pairs
    → AllByRecursion P (without cmp pairs key)
all_without cmp P pairs key all = all-append P _ _ (all-filter P _ pairs all) (all-filter P _ pairs all)

module _ {K V : Type 0} {LEN : ℕ} {cmp : K → K → Ordering} (o : IsTotalOrder cmp) (Says : V → Bool → Type 0) (a : TreeArenas K V LEN) (id : ℕ)
    (leaf : LeafOf K V LEN) (array : Arrivals K V) (key : K)
    (result : RemoveResult) (was : get a.leaves id ≡ Some leaf) where
  old_walk : walk 0 a id ≡ leaf.array.entries
  old_walk = walk-leaf a id leaf was

  new_walk : walk 0 (with_array a id leaf array) id ≡ array.entries
  new_walk = walk-leaf (with_array a id leaf array) id _ (here_now a id leaf array was)

  -- nothing was removed
  kept : array ≡ leaf.array → ((pair : K × V) → pair_at cmp leaf.array.entries key ≡ Some pair → Says pair.1 false)
      → RemovesUnder cmp Says 0 a (with_array a id leaf array) id Fail key
  kept same denied = grind (arith, old_walk, new_walk, here_now, updated, array_replaces)

  -- the key was
  module _ (pair : K × V) (found : pair_at cmp leaf.array.entries key ≡ Some pair) (says : Says pair.1 true) (taken : array ≡ removed cmp leaf.array key)
      (answer : result ≡ removal_of array) (none_retired : leaf.array.retired ≡ true → leaf.array.entries ≡ []) where
    live : leaf.array.retired ≡ false
    live = elim (cases_Bool leaf.array.retired) [ inl marked ↦ absurd (cc (rw (none_retired marked) at found)) | inr not ↦ not ]

    left : array.entries ≡ without cmp leaf.array.entries key
    left = rw taken refl

    takes : TakesOut cmp Says (walk 0 a id) key (walk 0 (with_array a id leaf array) id)
    takes = rw (old_walk, new_walk) (record { pair = pair; was = found; said = says; left = left })

    keeps_out : KeepsBounds cmp 0 a (with_array a id leaf array) id
    keeps_out low high s =
        let is : s.leaf ≡ leaf = cc (s.here, was) in
        record {
          leaf = record leaf { array = array };
          here = here_now a id leaf array was;
          few = rw left (omega (arith, without_few cmp leaf.array.entries key, rw is at s.few));
          ascending = rw left (IsAscending-without o leaf.array.entries key (rw is at s.ascending));
          above = rw left (all_without cmp _ leaf.array.entries key (rw is at s.above));
          up_to = rw left (all_without cmp _ leaf.array.entries key (rw is at s.up_to));
        }

    out : (retired : Bool) → array.retired ≡ retired → RemovesUnder cmp Says 0 a (with_array a id leaf array) id result key
    out true e =
        let none : array.entries ≡ [] = left ∙ nil_from_length _ (let spent = ap (λ (x : Arrivals K V). x.retired) taken in grind (arith, nat_tests)) in
        let more = spare_retired LEN (length leaf.array.entries) (found_free {V = V} {LEN = LEN} (Some leaf)) (free_within leaf) in
        grind (arith, none, more, takes, new_walk, here_now, array_replaces, answer, was)
    out false e =
        grind (arith, left, without_few, length-map, spent_at, takes, keeps_out, array_replaces, here_now, live, spare_removed)

  abbrev Settles : Type 0
  Settles = RemovesUnder cmp Says 0 a (with_array a id leaf array) id result key × (result ≡ Success → IsRetired 0 (with_array a id leaf array) id → ⊥)

  -- what an array answers of a removal, of its leaf, which isn't retired after `Success`
  pub removes_in_leaf : (leaf.array.retired ≡ true → leaf.array.entries ≡ []) → (IsAbsent cmp leaf.array.entries key → (array ≡ leaf.array) × (result ≡ Fail))
      → IfSome (pair_at cmp leaf.array.entries key) (λ pair. (said : Bool) × Says pair.1 said × IsRemoval cmp leaf.array key said result array)
      → Settles
  removes_in_leaf none_retired absent present = by_pair (pair_at cmp leaf.array.entries key) refl absent present
    where
      fails : array ≡ leaf.array → result ≡ Fail → ((pair : K × V) → pair_at cmp leaf.array.entries key ≡ Some pair → Says pair.1 false)
          → Settles
      fails same is denied = (rw is (kept same denied), λ success retired. cc (success, is))

      by_said : (pair : K × V) → pair_at cmp leaf.array.entries key ≡ Some pair → (said : Bool) → Says pair.1 said → IsRemoval cmp leaf.array key said result array
          → Settles
      by_said pair found true says removal = (
        out pair found says removal.0 removal.1 none_retired array.retired refl,
        λ success retired.
            let spent : array.retired ≡ true = (rw (here_now a id leaf array was) at retired).0 in
            cc (success, rw spent at removal.1),
      )
      by_said pair found false says removal = fails removal.0 removal.1 (λ other is. let same : pair ≡ other = cc (found, is) in rw same at says)

      by_pair : (found : Option (K × V)) → pair_at cmp leaf.array.entries key ≡ found → (found ≡ None → (array ≡ leaf.array) × (result ≡ Fail))
          → IfSome found (λ pair. (said : Bool) × Says pair.1 said × IsRemoval cmp leaf.array key said result array)
          → Settles
      by_pair None e absent present = fails (absent refl).0 (absent refl).1 (λ pair is. absurd (cc (e, is)))
      by_pair (Some pair) e absent present = by_said pair e present.0 present.1 present.2
