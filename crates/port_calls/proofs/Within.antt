-- The first entry of a part that is within a bound, told by the part's last one.
use Rattle.tree_cursors.proofs.RangesCommon.{◌≡◌, ℕ, true, false, List, [], ◌∷◌, ◌++◌, length, reverse, Option, Some, None, Bor, append_assoc, refl, sym, ap, ◌∙◌, arith, Ordering}
use Rattle.tree_cursors.proofs.RangesCommon.{IsTotalOrder, AllByRecursion, Bound, reverse-reverse, reverse-append, reverse_onto, IsAscending, lent, along, opposite, meets, Back, LeafWalk, On}
use Rattle.tree_cursors.proofs.RangesCommon.{Steps, TreeArenas, Way, all_ahead, all_along, all_at, all_left, both_ways, first_on, first_place, first_step, here, next_place}
use Rattle.tree_cursors.proofs.RangesCommon.{slice_get_within, step_takes, walk, BeginsPart, IsLinked, NoneMeets, Seeks}
use Rattle.port_calls.specs.Approximate.{Approximates}
use Rattle.tree_leaf.proofs.Along.{first_taken as first_step_takes}
use Rattle.tree_cursors.proofs.Ahead.{all_fail, at_ahead}

module _ {X : Type 0} (P : X → Type 0) where
  all_unturned : (way : Way) (xs : List X) → AllByRecursion P (along way xs) → AllByRecursion P xs
  all_unturned On xs all = all
  all_unturned Back xs all = rw (reverse-reverse xs) at (all_along P Back (reverse xs) all)

  -- an element behind which some of these don't pass is one of them
  one_of_first : (xs ys passed : List X) (x : X) (left : List X) → xs ++ ys ≡ passed ++ x ∷ left → AllByRecursion P passed → (AllByRecursion P xs → ⊥) → (mid : List X) × (xs ≡ passed ++ x ∷ mid)
  one_of_first [] ys passed x left parts all some = absurd (some tt)
  one_of_first (y ∷ xs) ys [] x left parts all some = let same : y ≡ x = cc in (xs, ap (λ z. z ∷ xs) same)
  one_of_first (y ∷ xs) ys (z ∷ passed) x left parts all some =
      let same : y ≡ z = cc in
      let others : xs ++ ys ≡ passed ++ x ∷ left = cc in
      let found = one_of_first xs ys passed x left others all.1 (λ rest. some (rw same all.0, rest)) in
      (found.0, rw (same, ← found.1) refl)

module _ {X : Type 0} where
  -- an element on a way stands between others
  parted : (way : Way) (xs before : List X) (x : X) (behind : List X) → along way xs ≡ before ++ x ∷ behind
      → (front : List X) × (back : List X) × (xs ≡ front ++ x ∷ back)
  parted On xs before x behind is = (before, behind, is)
  parted Back xs before x behind is =
      let turned = reverse-append before (x ∷ behind) ∙ ap (λ ys. ys ++ reverse before) (reverse_onto behind x [])
      ∙ append_assoc (reverse behind) (x ∷ []) (reverse before) in
      (reverse behind, reverse before, sym (reverse-reverse xs) ∙ ap reverse is ∙ turned)

module _ {K V : Type 0} {cmp : K → K → Ordering} where
  -- where the first one on the other way isn't within the bound, none is
  none_from : (o : IsTotalOrder cmp) (way : Way) (bound : Bound K) (l : List (K × V)) → IsAscending cmp l → (first : K × V) → first_on way l ≡ Some first
      → meets cmp (opposite way) bound first.0 ≡ false → NoneMeets cmp (opposite way) bound l
  none_from o way bound l ascending first is missed =
      let here = sym (first_place way l) ∙ is in
      let parts = sym (all_ahead way l) ∙ step_takes way l None _ first (omega (arith, all_left way (length l), slice_get_within l _ first here), here, refl) in
      let others = rw (at_ahead way l (next_place way (length l) None)) at (all_fail o way bound l _ first ascending here missed) in
      all_unturned _ way l (rw parts (missed, others))

  pub none_within : (o : IsTotalOrder cmp) (way : Way) (bound : Bound K) (l : List (K × V)) → IsAscending cmp l → (last : K × V)
      → first_on (opposite way) l ≡ Some last → meets cmp way bound last.0 ≡ false → NoneMeets cmp way bound l
  none_within o On bound l ascending last is missed = none_from o Back bound l ascending last is missed
  none_within o Back bound l ascending last is missed = none_from o On bound l ascending last is missed

module _ {K V : Type 0} {LEN : ℕ} (cmp : K → K → Ordering) (way : Way) (level : ℕ) (a : TreeArenas K V LEN) (id : ℕ) (bound : Bound K)
    (linked : IsLinked level a id) (last : K × V) (is : first_on (opposite way) (walk level a id) ≡ Some last) (met : meets cmp way bound last.0 ≡ true) where
  -- where it is, what is found is in the part, since the part has such an entry
  pub found_within : (found : Option (LeafWalk K V LEN)) → Seeks cmp way level a id bound found → Approximates cmp way level a id bound found
  found_within None seeks = all_unturned _ way (walk level a id) (seeks linked.0 linked.1 linked.2)
  found_within (Some found) seeks =
      let near = seeks linked.0 linked.1 linked.2 in
      let some = λ (none : NoneMeets cmp way bound (along way (walk level a id))).
      let missed = all_at _ (walk level a id) _ last (all_unturned _ way (walk level a id) none) (sym (first_place (opposite way) (walk level a id)) ∙ is) in
      both_ways _ missed met in
      let inside = one_of_first (λ (p : K × V). meets cmp way bound p.0 ≡ false)
      (along way (walk level a id)) _ near.before near.pair _ near.parts near.none_before some in
      let parts = parted way (walk level a id) near.before near.pair inside.0 inside.1 in
      record { same = near.stand.same; front = parts.0; pair = near.pair; back = parts.1; parts = parts.2; here = near.here; met = near.met }

-- a walk that begins a part takes the part's first entry
pub first_taken : {K V : Type 0} {LEN : ℕ} (way : Way) (level : ℕ) (a : TreeArenas K V LEN) (id : ℕ) (begun new : LeafWalk K V LEN) (r : Option (Bor K × Bor V))
    → BeginsPart way level a id begun → Steps way begun r new → lent r ≡ first_on way (walk level a id)
first_taken way level a id begun new r begins steps =
    let fresh = ap (λ w. w.at) begins.unopened in
    (first_step_takes way (here begun) (lent r) new.at (rw fresh at steps.1)).0 ∙ begins.entry

-- a list without a first entry has none
pub none_in_empty : {K V : Type 0} (cmp : K → K → Ordering) (way : Way) (bound : Bound K) (l : List (K × V)) (from : Way) → first_on from l ≡ None → NoneMeets cmp way bound l
none_in_empty cmp way bound [] from none = tt
none_in_empty cmp way bound (x ∷ l) from none = absurd (let some = sym none ∙ first_place from (x ∷ l) ∙ (first_step from x l).steps.1 in cc)
