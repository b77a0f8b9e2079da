-- A walk that seeks the first pair within a bound: what it has passed, and what is left.
use Rattle.tree_cursors.proofs.Common.{◌≡◌, ℕ, true, false, List, [], ◌∷◌, ◌++◌, Option, None, Some, MatchOption, ◌⊎◌, refl, sym, ap, ◌∙◌, append_assoc, Bor, Ordering, Less, append-nil}
use Rattle.tree_cursors.proofs.Common.{AllByRecursion, arith, Bound, Included, Excluded, IsTotalOrder, reverse-append, flat_map-append, lent_entry, along, meets, Way, On, Back, all-append, all_map}
use Rattle.tree_cursors.proofs.Common.{greater_from_less, Slab, LeafOf, IsChain, entries_of, leaf_entries, TreeArenas, leaves_at, walk, LeafWalk, standing, beyond, HasTaken, Takes, left_of, all_ahead, ahead, here}
use Rattle.std.proofs.Common.{filter, not, subst}
use Rattle.tree_model.proofs.Lists.{all_passed}
use Rattle.tree_cursors.proofs.Common.{all_along, BeginsPart, passed, IsLeafFor, IsNearest, NoneMeets, Opens, StandsIn, path, stands_on}
use Rattle.tree_node.proofs.Cuts.{all_front}

-- the bound is at this key
abbrev pub IsAt : {K : Type 0} → K → Bound K → Type 0
IsAt key bound = (bound ≡ Included key) ⊎ (bound ≡ Excluded key)

module _ {K V : Type 0} {cmp : K → K → Ordering} (o : IsTotalOrder cmp) (key : K) (bound : Bound K) where
  -- smaller keys are not within a lower bound, and larger ones not within an upper bound
  smaller_out : IsAt key bound → (pairs : List (K × V)) → AllByRecursion (λ pair. cmp pair.0 key ≡ Less) pairs → NoneMeets cmp On bound pairs
  smaller_out at pairs all = all_map (λ (pair : K × V) (less : cmp pair.0 key ≡ Less). let greater = greater_from_less o pair.0 key less in grind arith) pairs all

  larger_out : IsAt key bound → (pairs : List (K × V)) → AllByRecursion (λ pair. cmp key pair.0 ≡ Less) pairs → NoneMeets cmp Back bound pairs
  larger_out at pairs all = all_map (λ (pair : K × V) (more : cmp key pair.0 ≡ Less). let greater = greater_from_less o key pair.0 more in grind arith) pairs all

module _ {K V : Type 0} {LEN : ℕ} {cmp : K → K → Ordering} (o : IsTotalOrder cmp) (level : ℕ) (a : TreeArenas K V LEN) (id : ℕ) (way : Way) (key : K) (bound : Bound K) (leaf : ℕ) (is : IsLeafFor cmp key level a id leaf) where
  -- a walk that stands unopened in the leaf of the bound's key
  pub opens_at : IsAt key bound → (begun : LeafWalk K V LEN) → begun ≡ standing a.leaves leaf None → Opens cmp way level a id bound begun
  opens_at at begun same =
      let none = elim way as (λ way. NoneMeets cmp way bound (entries_of a.leaves (passed way is.front is.back)))
      [ On ↦ smaller_out o key bound at (entries_of a.leaves is.front) is.smaller | Back ↦ larger_out o key bound at (entries_of a.leaves is.back) is.larger ] in
      rw same (record { unopened = refl; front = is.front; back = is.back; parts = is.parts; none_before = none })

-- a walk that begins the part, without a bound
pub opens_unbounded : {K V : Type 0} {LEN : ℕ} (cmp : K → K → Ordering) (way : Way) (level : ℕ) (a : TreeArenas K V LEN) (id : ℕ) (bound : Bound K) (result : Option (LeafWalk K V LEN))
    → MatchOption result (walk level a id ≡ []) (BeginsPart way level a id) → MatchOption result (walk level a id ≡ []) (Opens cmp way level a id bound)
opens_unbounded cmp way level a id bound None empty = empty
opens_unbounded cmp way level a id bound (Some begun) begins = record {
  unopened = begins.unopened;
  front = begins.leaf.front;
  back = begins.leaf.back;
  parts = begins.leaf.parts;
  none_before = rw begins.leaf.none_passed tt;
}

-- of some pairs those that don't meet a key are not within the bound that includes it, nor within that which excludes it
module _ {K V : Type 0} (cmp : K → K → Ordering) (way : Way) (key : K) (pairs : List (K × V)) where
  abbrev pub Unmet : K × V → Type 0
  Unmet pair = not (meets cmp way (Included key) pair.0) ≡ true

  abbrev pub unmet : List (K × V)
  unmet = along way (filter (λ pair. not (meets cmp way (Included key) pair.0)) pairs)

  pub none_included : NoneMeets cmp way (Included key) unmet
  none_included = all_along _ way _ (all_passed _ _ (λ (pair : K × V) (out : Unmet pair). grind arith) pairs)

  pub none_excluded : NoneMeets cmp way (Excluded key) unmet
  none_excluded = all_along _ way _ (all_passed _ _ (λ (pair : K × V) (out : Unmet pair). by_way way pair out) pairs)
    where
      by_way : (way : Way) (pair : K × V) → not (meets cmp way (Included key) pair.0) ≡ true → meets cmp way (Excluded key) pair.0 ≡ false
      by_way On pair out = grind arith
      by_way Back pair out = grind arith

module _ {K V : Type 0} {LEN : ℕ} (cmp : K → K → Ordering) (way : Way) (bound : Bound K) (pairs : List (K × V)) (leaves : Slab (LeafOf K V LEN)) (chain : List ℕ) where
  -- of these pairs the walk has passed some that aren't within the bound, and the others are left
  pub record IsSought (now : LeafWalk K V LEN) : Type 0 where
    pub stand : StandsIn leaves chain now
    pub before : List (K × V)
    pub parts : pairs ≡ before ++ left_of way now stand.front stand.back
    pub none_before : NoneMeets cmp way bound before

  -- a walk that was opened in its leaf, and there has passed some more that aren't
  pub passed_sought : (old new : LeafWalk K V LEN) → IsSought old → old.at ≡ None → new ≡ standing old.leaves old.leaf new.at
      → (passed : List (K × V)) × (along way (here old) ≡ passed ++ ahead way (here old) new.at) × NoneMeets cmp way bound passed → IsSought new
  passed_sought old new sought fresh stays passes =
      let rest = along way (entries_of old.leaves (beyond way sought.stand.front sought.stand.back)) in
      let left = ap (λ (at : Option ℕ). ahead way (here old) at ++ rest) fresh ∙ ap (λ (xs : List (K × V)). xs ++ rest) (all_ahead way (here old) ∙ passes.1) ∙ append_assoc passes.0 (ahead way (here old) new.at) rest in
      subst IsSought (sym stays) (record {
        stand = record { same = sought.stand.same; front = sought.stand.front; back = sought.stand.back; stands = sought.stand.stands };
        before = sought.before ++ passes.0;
        parts = sought.parts ∙ ap (λ (xs : List (K × V)). sought.before ++ xs) left ∙ sym (append_assoc sought.before passes.0 _);
        none_before = all-append _ sought.before passes.0 sought.none_before passes.2;
      })

  module _ (is_chain : IsChain leaves chain) (old : LeafWalk K V LEN) (sought : IsSought old) where
    pub old_chain : IsChain old.leaves (sought.stand.front ++ old.leaf ∷ sought.stand.back)
    old_chain = rw (sought.stand.same, sought.stand.stands) is_chain

    module _ (new : LeafWalk K V LEN) where
      -- no entry is left
      pub none_left : Takes way old None new → NoneMeets cmp way bound pairs
      none_left takes =
          rw (sought.parts, (takes sought.stand.front sought.stand.back old_chain).takes.0, append-nil sought.before) sought.none_before

      module _ (entry : Bor K × Bor V) (takes : Takes way old (Some entry) new) where
        took : HasTaken way old.leaves (sought.stand.front ++ old.leaf ∷ sought.stand.back) (left_of way old sought.stand.front sought.stand.back) (Some entry) new
        took = takes sought.stand.front sought.stand.back old_chain

        pub nearest : meets cmp way bound entry.0.now ≡ true → IsNearest cmp way bound pairs leaves chain new
        nearest met = record {
          stand = stands_on sought.stand took.stand;
          before = sought.before;
          pair = lent_entry entry;
          here = took.on;
          parts = sought.parts ∙ ap (λ (rest : List (K × V)). sought.before ++ rest) took.takes;
          none_before = sought.none_before;
          met = met;
        }

        pub still_sought : meets cmp way bound entry.0.now ≡ false → IsSought new
        still_sought missed = record {
          stand = stands_on sought.stand took.stand;
          before = sought.before ++ lent_entry entry ∷ [];
          parts = sought.parts ∙ ap (λ (rest : List (K × V)). sought.before ++ rest) took.takes ∙ sym (append_assoc sought.before (lent_entry entry ∷ []) _);
          none_before = all-append _ sought.before (lent_entry entry ∷ []) sought.none_before (missed, tt);
        }

module _ {K V : Type 0} {LEN : ℕ} (cmp : K → K → Ordering) (level : ℕ) (a : TreeArenas K V LEN) (id : ℕ) (bound : Bound K) where
  -- a part without an entry has none within the bound
  pub none_in_empty : (way : Way) → walk level a id ≡ [] → NoneMeets cmp way bound (along way (walk level a id))
  none_in_empty On empty = rw empty tt
  none_in_empty Back empty = rw empty tt

  -- nor has a part where none is on the whole way
  pub none_in_part : (way : Way) (front back : List ℕ) → NoneMeets cmp way bound (path way level a id front back) → NoneMeets cmp way bound (along way (walk level a id))
  none_in_part way front back none = all_front _ (along way (walk level a id)) _ none

  -- where a walk is opened all is left but what its leaf is behind
  pub opened_sought : (way : Way) (begun : LeafWalk K V LEN) → Opens cmp way level a id bound begun → (front back : List ℕ)
      → IsSought cmp way bound (path way level a id front back) a.leaves (front ++ (leaves_at level a.nodes id ++ back)) begun
  opened_sought way begun opens front back = rw opens.unopened (record {
    stand = record { same = refl; front = front ++ opens.front; back = opens.back ++ back; stands = rw opens.parts (simp append_assoc) };
    before = along way (entries_of a.leaves (passed way opens.front opens.back));
    parts = rw (all_ahead way (leaf_entries a.leaves begun.leaf), opens.parts, flat_map-append (leaf_entries a.leaves) opens.front (begun.leaf ∷ opens.back)) (by_way way);
    none_before = all_along _ way _ opens.none_before;
  })
    where
      by_way : (way : Way)
          → along way (entries_of a.leaves opens.front ++ (leaf_entries a.leaves begun.leaf ++ entries_of a.leaves opens.back)) ++ along way (entries_of a.leaves (beyond way front back))
          ≡ along way (entries_of a.leaves (passed way opens.front opens.back)) ++ (along way (leaf_entries a.leaves begun.leaf) ++ along way (entries_of a.leaves (beyond way (front ++ opens.front) (opens.back ++ back))))
      by_way On = rw (flat_map-append (leaf_entries a.leaves) opens.back back) (simp append_assoc)
      by_way Back =
          rw (
            flat_map-append (leaf_entries a.leaves) front opens.front,
            reverse-append (entries_of a.leaves opens.front) (leaf_entries a.leaves begun.leaf ++ entries_of a.leaves opens.back),
            reverse-append (leaf_entries a.leaves begun.leaf) (entries_of a.leaves opens.back),
            reverse-append (entries_of a.leaves front) (entries_of a.leaves opens.front),
          ) (simp append_assoc)
