-- Where a walk of a part begins: in a leaf of the chain, at the first entry of the part on its way.
use Rattle.tree_parts.proofs.Common.{◌≡◌, ℕ, ◌<◌, List, [], ◌∷◌, ◌++◌, length, reverse, None, refl, subst, arith, append_assoc, append-nil, flat_map-append, reverse-append, Back, BeginsPart, IsChain}
use Rattle.tree_parts.proofs.Common.{IsFirstOn, IsLinked, LeafOf, LeafWalk, On, Slab, TreeArenas, Way, entries_of, first_along, first_of, leaf_entries, leaves_at, length-reverse, passed, first_on}
use Rattle.tree_leaf.proofs.ChainCommon.{standing}

first-append : {X : Type 0} (xs ys : List X) → 0 < length xs → first_of xs ≡ first_of (xs ++ ys)
first-append [] ys some = absurd (omega arith)
first-append (x ∷ xs) ys some = refl

module _ {K V : Type 0} {LEN : ℕ} (leaves : Slab (LeafOf K V LEN)) where
  -- the first entry of the leaf is the first of all these leaves
  first_of_all : (way : Way) (ids : List ℕ) (id : ℕ) → IsFirstOn way leaves ids id → first_on way (leaf_entries leaves id) ≡ first_on way (entries_of leaves ids)
  first_of_all way ids id is = rw (is.parts, flat_map-append (leaf_entries leaves) is.front (id ∷ is.back)) (by_way way is.none_passed)
    where
      by_way : (way : Way) → entries_of leaves (passed way is.front is.back) ≡ []
          → first_on way (leaf_entries leaves id) ≡ first_on way (entries_of leaves is.front ++ (leaf_entries leaves id ++ entries_of leaves is.back))
      by_way On none = rw none (first-append (leaf_entries leaves id) (entries_of leaves is.back) is.entry)
      by_way Back none =
          rw (
            none,
            append-nil (leaf_entries leaves id),
            first_along Back (leaf_entries leaves id),
            first_along Back (entries_of leaves is.front ++ leaf_entries leaves id),
            reverse-append (entries_of leaves is.front) (leaf_entries leaves id),
          )
          (first-append (reverse (leaf_entries leaves id)) (reverse (entries_of leaves is.front)) (rw length-reverse is.entry))

-- a leaf of a part is in the chain of the part
pub leaf_in_chain : {K V : Type 0} {LEN : ℕ} (level : ℕ) (a : TreeArenas K V LEN) (id leaf : ℕ) (front back : List ℕ)
    → leaves_at level a.nodes id ≡ front ++ leaf ∷ back → IsLinked level a id → (before behind : List ℕ) × IsChain a.leaves (before ++ leaf ∷ behind)
leaf_in_chain level a id leaf front back parts linked =
    let grouped : linked.0 ++ (leaves_at level a.nodes id ++ linked.1) ≡ (linked.0 ++ front) ++ leaf ∷ (back ++ linked.1) = rw parts (simp append_assoc) in
    (linked.0 ++ front, back ++ linked.1, subst (IsChain a.leaves) grouped linked.2)

pub begins_there : {K V : Type 0} {LEN : ℕ} (way : Way) (level : ℕ) (a : TreeArenas K V LEN) (id leaf : ℕ)
    → IsFirstOn way a.leaves (leaves_at level a.nodes id) leaf → (begun : LeafWalk K V LEN) → begun ≡ standing a.leaves leaf None
    → BeginsPart way level a id begun
begins_there way level a id leaf is begun same = rw same
    (record { unopened = refl; leaf = is; entry = first_of_all a.leaves way (leaves_at level a.nodes id) leaf is })
