-- The place of a walk among the pairs of a tree, and where it goes.
use Rattle.tree_cursors.proofs.Common.{◌≡◌, ℕ, zero, ◌+◌, ◌<◌, List, [], ◌∷◌, ◌++◌, length, reverse, slice_get, inl, inr, suc, Option, Some, None, refl, sym, ap}
use Rattle.tree_cursors.proofs.Common.{◌∙◌, arith, length-append, length-drop, append-nil, length-take, Bor, Ordering, nat_tests, flat_map-append, Bound, lent_entry, along, at_place, meets}
use Rattle.tree_cursors.proofs.Common.{next_end, unopened, Way, On, Back, Slab, LeafOf, IsChain, times, entries_of, leaf_entries, one_here, times-cons, uses_le_one, TreeArenas, StandsOrRetired}
use Rattle.tree_cursors.proofs.Common.{leaves_at, walk, IsTree, leaves_under, walk_under, root_at, Root, LeafWalk, Steps, standing, beyond, length-reverse, slice_get_within, Takes}
use Rattle.tree_cursors.proofs.Common.{left_of, StandsInside, ahead, places_left, counted, took, exhausted, IsLinked, Seeks, path, stands_on, End, Unopened, At, Exhausted, EndStands}
use Rattle.tree_cursors.proofs.Common.{GoesTo, Stands, StepsInLeaf, end_of, place_at, place_in, place_of}
use Rattle.tree_cursors.proofs.Places.{beside_is, beside_none, first_is, first_none}

-- elements of joined lists
get_left : {X : Type 0} (xs ys : List X) (i : ℕ) (x : X) → slice_get xs i ≡ Some x → slice_get (xs ++ ys) i ≡ Some x
get_left [] ys i x is = absurd (cc)
get_left (y ∷ xs) ys zero x is = is
get_left (y ∷ xs) ys (suc i) x is = get_left xs ys i x is

get_right : {X : Type 0} (xs ys : List X) (i n : ℕ) → n ≡ length xs + i → slice_get (xs ++ ys) n ≡ slice_get ys i
get_right [] ys i n is = ap (slice_get ys) (omega (arith, is))
get_right (x ∷ xs) ys i zero is = absurd (omega (arith, is))
get_right (x ∷ xs) ys i (suc n) is = get_right xs ys i n (omega (arith, is))

module _ {K V : Type 0} {LEN : ℕ} (leaves : Slab (LeafOf K V LEN)) where
  -- in a list that a number stands in once, its leaf begins behind the entries of the leaves before
  place_split : (front : List ℕ) (id : ℕ) (back : List ℕ) (i : ℕ) → times id front ≡ 0 → place_in leaves (front ++ id ∷ back) id i ≡ length (entries_of leaves front) + i
  place_split [] id back i once = grind (arith, nat_tests)
  place_split (x ∷ front) id back i once =
      let again = place_split front id back i in
      grind (arith, nat_tests, times-cons id x front, one_here id x, length-append (leaf_entries leaves x) (entries_of leaves front))

-- where a walk stands among the entries of its chain, and how many are left of it either way
pub record IsPlaced {K V : Type 0} {LEN : ℕ} (leaves : Slab (LeafOf K V LEN)) (front : List ℕ) (back : List ℕ) (pairs : List (K × V)) (ids : List ℕ) (walk : LeafWalk K V LEN) (pair : K × V) : Type 0 where
  pub place : ℕ
  pub place_is : place_at leaves ids walk.leaf walk.at ≡ at_place place
  pub inside : place < length pairs
  pub there : slice_get pairs place ≡ Some pair
  pub left : (way : Way) → length (left_of way walk front back) ≡ places_left way (length pairs) (Some place)

module _ {K V : Type 0} {LEN : ℕ} (leaves : Slab (LeafOf K V LEN)) (front : List ℕ) (id : ℕ) (back : List ℕ) (chain : IsChain leaves (front ++ id ∷ back)) where
  module _ (pair : K × V) (i : ℕ) (is : slice_get (leaf_entries leaves id) i ≡ Some pair) where
    abbrev before : ℕ
    before = length (entries_of leaves front)

    parts : entries_of leaves (front ++ id ∷ back) ≡ entries_of leaves front ++ (leaf_entries leaves id ++ entries_of leaves back)
    parts = flat_map-append (leaf_entries leaves) front (id ∷ back)

    found : slice_get (entries_of leaves (front ++ id ∷ back)) (before + i) ≡ Some pair
    found = rw (parts, get_right (entries_of leaves front) (leaf_entries leaves id ++ entries_of leaves back) i (before + i) refl) (get_left (leaf_entries leaves id) (entries_of leaves back) i pair is)

    left_is : (way : Way) → length (ahead way (leaf_entries leaves id) (Some i) ++ along way (entries_of leaves (beyond way front back))) ≡ places_left way (length (entries_of leaves (front ++ id ∷ back))) (Some (before + i))
    left_is On =
        let within = slice_get_within (leaf_entries leaves id) i pair is in
        rw parts (omega (arith, within, length-append {A = K × V}, length-drop (i + 1) (leaf_entries leaves id)))
    left_is Back =
        let within = slice_get_within (leaf_entries leaves id) i pair is in
        omega (arith, within, length-append {A = K × V}, length-reverse {A = K × V}, length-take i (leaf_entries leaves id))

    placed : IsPlaced leaves front back (entries_of leaves (front ++ id ∷ back)) (front ++ id ∷ back) (standing leaves id (Some i)) pair
    placed = record {
      place = before + i;
      place_is = ap at_place (place_split leaves front id back i (omega (arith, counted leaves front id back chain id, uses_le_one leaves id, times-cons id id back, one_here id id refl)));
      inside = slice_get_within (entries_of leaves (front ++ id ∷ back)) (before + i) pair found;
      there = found;
      left = left_is;
    }

module _ {K V : Type 0} {LEN : ℕ} {cmp : K → K → Ordering} (a : TreeArenas K V LEN) (root : Option Root) (tree : IsTree cmp a root) where
  pairs_are : walk_under a root ≡ entries_of a.leaves (leaves_under a.nodes root)
  pairs_are = elim root as (λ root. walk_under a root ≡ entries_of a.leaves (leaves_under a.nodes root)) [ None ↦ refl | Some root ↦ refl ]

  -- the place of a walk that stands in the tree
  pub placed_in : (now : LeafWalk K V LEN) (s : Stands a root now) → IsPlaced a.leaves s.stand.front s.stand.back (walk_under a root) (leaves_under a.nodes root) now s.pair
  placed_in now s = rw pairs_are (by_place now.at refl)
    where
      by_place : (at : Option ℕ) → now.at ≡ at → IsPlaced a.leaves s.stand.front s.stand.back (entries_of a.leaves (leaves_under a.nodes root)) (leaves_under a.nodes root) now s.pair
      by_place None is = absurd (let none = rw is at s.here in cc)
      by_place (Some i) is =
          let this : now ≡ standing a.leaves now.leaf (Some i) = rw (← s.stand.same, ← is) refl in
          let there : slice_get (leaf_entries a.leaves now.leaf) i ≡ Some s.pair = rw (s.stand.same, is) at s.here in
          rw (this, ← s.stand.stands) (placed a.leaves s.stand.front now.leaf s.stand.back (rw s.stand.stands tree.chain) s.pair i there)

  -- an end that stands in the tree is at one of its places
  pub end_inside : (end : End (LeafWalk K V LEN)) → EndStands a root end → StandsInside (walk_under a root) (end_of a root end)
  end_inside Unopened s = tt
  end_inside (At walk) s = let placed = placed_in walk s in rw placed.place_is placed.inside
  end_inside Exhausted s = tt

  module _ (way : Way) (old : LeafWalk K V LEN) (s : Stands a root old) (new : LeafWalk K V LEN) where
    pub old_chain : IsChain old.leaves (s.stand.front ++ old.leaf ∷ s.stand.back)
    old_chain = rw (s.stand.same, s.stand.stands) tree.chain

    -- a walk that goes on stands one place along
    pub goes_to : (entry : Bor K × Bor V) → Takes way old (Some entry) new → GoesTo a root cmp way (At old) entry (At new)
    goes_to entry takes =
        let next = takes s.stand.front s.stand.back old_chain in
        let stands : Stands a root new = record { stand = stands_on s.stand next.stand; pair = lent_entry entry; here = next.on } in
        let from = placed_in old s in
        let to = placed_in new stands in
        let fewer : places_left way (length (walk_under a root)) (Some from.place) ≡ suc (places_left way (length (walk_under a root)) (Some to.place)) =
        sym (from.left way) ∙ ap length next.takes ∙ ap (λ n. suc n) (to.left way) in
        record { place = λ bound. rw (to.place_is, from.place_is, beside_is way (length (walk_under a root)) from.place to.place from.inside to.inside fewer) refl; stands = stands; pair = next.on }

    -- or it has left the tree
    pub leaves_tree : Takes way old None new → (bound : Bound K) → exhausted ≡ next_end cmp way bound (walk_under a root) (place_of a root old)
    leaves_tree takes bound =
        let next = takes s.stand.front s.stand.back old_chain in
        let from = placed_in old s in
        let none : places_left way (length (walk_under a root)) (Some from.place) ≡ 0 = sym (from.left way) ∙ ap length next.takes.0 in
        rw (from.place_is, beside_none way (length (walk_under a root)) from.place none) refl

-- a step in a leaf is a move in each tree that the leaf is in
pub steps_in_leaf : {K V : Type 0} {LEN : ℕ} (cmp : K → K → Ordering) (way : Way) (old new : LeafWalk K V LEN) (result : Option (Bor K × Bor V)) → Steps way old result new → StepsInLeaf cmp way (At old) result (At new)
steps_in_leaf cmp way old new None steps = (ap (λ walk. At walk) (steps.0 ∙ ap (λ at. standing old.leaves old.leaf at) steps.1.1), steps.1.0)
steps_in_leaf cmp way old new (Some entry) steps = λ arenas root tree stands.
    goes_to arenas root tree way old stands new entry (took way old new (Some entry) (λ none. absurd (cc)) steps)

module _ {K V : Type 0} {LEN : ℕ} {cmp : K → K → Ordering} (a : TreeArenas K V LEN) (id level : ℕ) (tree : IsTree cmp a (Some (root_at id level))) where
  pub whole_chain : IsChain a.leaves ([] ++ (leaves_at level a.nodes id ++ []))
  whole_chain = rw (append-nil (leaves_at level a.nodes id)) tree.chain

  pub root_linked : IsLinked level a id
  root_linked = ([], [], whole_chain)

  pub root_stands : StandsOrRetired cmp level a id
  root_stands = elim tree.top.1 [ inl s ↦ inl s | inr retired ↦ inr (rw retired.0 retired.1) ]

  path_is : (way : Way) → path way level a id [] [] ≡ along way (walk level a id)
  path_is On = append-nil (walk level a id)
  path_is Back = append-nil (reverse (walk level a id))

  module _ (way : Way) (bound : Bound K) where
    pub found_end : (found : LeafWalk K V LEN) → Seeks cmp way level a id bound (Some found)
        → Stands a (Some (root_at id level)) found × (place_of a (Some (root_at id level)) found ≡ next_end cmp way bound (walk level a id) unopened)
    found_end found seeks =
        let near = seeks [] [] whole_chain in
        let n = near.stand in
        let stands : Stands a (Some (root_at id level)) found =
        record { stand = record { same = n.same; front = n.front; back = n.back; stands = n.stands ∙ append-nil (leaves_at level a.nodes id) }; pair = near.pair; here = near.here } in
        let at = placed_in a (Some (root_at id level)) tree found stands in
        let first = first_is (λ pair. meets cmp way bound pair.0) way (walk level a id) near.before near.pair _ at.place (sym (path_is way) ∙ near.parts) near.none_before near.met at.inside (sym (at.left way)) in
        (stands, rw (at.place_is, first) refl)

    pub found_none : Seeks cmp way level a id bound None → exhausted ≡ next_end cmp way bound (walk level a id) unopened
    found_none seeks = rw (first_none (λ pair. meets cmp way bound pair.0) way (walk level a id) (seeks [] [] whole_chain)) refl
