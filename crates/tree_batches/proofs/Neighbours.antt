-- The pair of a key or the next one on a way, from the leaf that the key belongs to.
use Rattle.std.proofs.Common.{◌≡◌, ℕ, suc, ◌-◌, Bool, true, false, List, [], ◌∷◌, ◌++◌, length, reverse, filter, not, Option, Some, None, refl, sym, ap, ◌∙◌, append_assoc, append-nil, length-append, arith, is_le, is_eq, is_lt, Ordering, Less, Equal, Greater}
use Rattle.std.specs.Borrow.{Bor}
use Rattle.std.specs.Map.Iter.{TakesFirst}
use Rattle.std.specs.Option.{option_or}
use Rattle.tree_array.proofs.Common.{all-append, all_map, filter_none, greater_from_less}
use Rattle.tree_batches.specs.Batches.{LeafUnder}
use Rattle.tree_batches.specs.Nearest.{nearest}
use Rattle.tree_cursors.proofs.Nearest.{all_above}
use Rattle.tree_cursors.proofs.Shown.{pairs_ascend}
use Rattle.tree_index.proofs.Ended.{none_last_of}
use Rattle.tree_index.specs.Nearest.{at_or_above, at_or_below}
use Rattle.tree_leaf.proofs.Along.{all_along, first_along}
use Rattle.tree_leaf.specs.Rest.{Takes}
use Rattle.tree_leaf.specs.Walks.{LeafWalk, first_of, last_of, standing}
use Rattle.tree_leaf.specs.Ways.{ahead, beyond}
use Rattle.tree_model.proofs.Common.{AllByRecursion, Included, IsAscending, IsTotalOrder, along, below, filter-append, flat_map-append, lent, lent_entry, meets, nil_from_length, pair_at, reverse-append, reverse-reverse, reverse_onto}
use Rattle.tree_model.proofs.Lists.{all_passed, filter_all, find_none}
use Rattle.tree_model.proofs.LookUps.{none_larger}
use Rattle.tree_model.specs.declared.way.Way.{Way}
use Rattle.tree_model.specs.declared.way.Way.TheVariants.{On, Back}
use Rattle.tree_node.proofs.Common.{IsChain, IsTree, TreeArenas, entries_of, leaf_entries, walk_under}
use Rattle.tree_node.specs.Ways.{IsLeafFor}
use Rattle.tree_node.specs.declared.node.Root.{Root}
use Rattle.tree_cursors.proofs.Common.{passed}

-- Some pairs don't meet a key on a way, and all behind them do.
module _ {K V : Type 0} (cmp : K → K → Ordering) (k : K) where
  abbrev pub NoneMeets : Way → List (K × V) → Type 0
  NoneMeets way pairs = AllByRecursion (λ pair. meets cmp way (Included k) pair.0 ≡ false) pairs

  abbrev pub AllMeet : Way → List (K × V) → Type 0
  AllMeet way pairs = AllByRecursion (λ pair. meets cmp way (Included k) pair.0 ≡ true) pairs

not_equal : (r : Ordering) → is_le r ≡ false → is_eq r ≡ false
not_equal Less more = absurd (cc)
not_equal Equal more = absurd (cc)
not_equal Greater more = refl

not_less : (r : Ordering) → is_le r ≡ false → is_lt r ≡ false
not_less Less more = absurd (cc)
not_less Equal more = absurd (cc)
not_less Greater more = refl

last_more : {X : Type 0} (x y : X) (xs : List X) → last_of (x ∷ (y ∷ xs)) ≡ last_of (y ∷ xs)
last_more x y xs =
    let before : length (x ∷ (y ∷ xs)) - 1 ≡ suc (length (y ∷ xs) - 1) = omega arith in
    rw before refl

module _ {K V : Type 0} {cmp : K → K → Ordering} (o : IsTotalOrder cmp) (k : K) where
  -- on to larger keys it is the first of these
  above_is : (before left : List (K × V)) → IsAscending cmp (before ++ left) → NoneMeets cmp k On before → AllMeet cmp k On left
      → first_of left ≡ at_or_above cmp (before ++ left) k
  above_is [] [] ascending none all = refl
  above_is [] (x ∷ left) ascending none all = by_order (cmp x.0 k) refl
    where
      by_order : (r : Ordering) → cmp x.0 k ≡ r → Some x ≡ at_or_above cmp (x ∷ left) k
      by_order Less h = absurd (let le : is_le (cmp k x.0) ≡ true = all.0 in let over = rw (o.antisymm k x.0, h) at le in cc)
      by_order Equal h = rw h refl
      by_order Greater h = rw (h, none_larger o k left (all_above o k x left ascending.0 all.0)) refl
  above_is (x ∷ before) left ascending none all = by_order (above_is before left ascending.1 none.1 all) (cmp x.0 k) refl
    where
      by_order : first_of left ≡ at_or_above cmp (before ++ left) k → (r : Ordering) → cmp x.0 k ≡ r → first_of left ≡ at_or_above cmp (x ∷ (before ++ left)) k
      by_order rest Less h = rw h rest
      by_order rest Equal h = absurd (let more : is_le (cmp k x.0) ≡ false = none.0 in let under = rw (o.antisymm k x.0, h) at more in cc)
      by_order rest Greater h = absurd (let more : is_le (cmp k x.0) ≡ false = none.0 in let under = rw (o.antisymm k x.0, h) at more in cc)

  -- back to smaller keys it is the last of these
  below_is : (left before : List (K × V)) → IsAscending cmp (left ++ before) → NoneMeets cmp k Back before → AllMeet cmp k Back left
      → last_of left ≡ at_or_below cmp (left ++ before) k
  below_is [] before ascending none all =
      rw (
        find_none (λ (pair : K × V). is_eq (cmp pair.0 k)) before (all_map (λ (pair : K × V) (more : is_le (cmp pair.0 k) ≡ false). not_equal (cmp pair.0 k) more) before none),
        filter_none (λ (pair : K × V). is_lt (cmp pair.0 k)) before (all_map (λ (pair : K × V) (more : is_le (cmp pair.0 k) ≡ false). not_less (cmp pair.0 k) more) before none),
      ) refl
  below_is (x ∷ []) before ascending none all = by_order (cmp x.0 k) refl (below_is [] before ascending.1 none tt)
    where
      by_found : (found : Option (K × V)) (smaller : List (K × V)) → None ≡ option_or found (last_of smaller) → Some x ≡ option_or found (last_of (x ∷ smaller))
      by_found None smaller rest = rw (none_last_of smaller (sym rest)) refl
      by_found (Some pair) smaller rest = absurd (cc)

      by_order : (r : Ordering) → cmp x.0 k ≡ r → None ≡ at_or_below cmp before k → Some x ≡ at_or_below cmp (x ∷ before) k
      by_order Less h rest = rw h (by_found (pair_at cmp before k) (below cmp before k) rest)
      by_order Equal h rest = rw h refl
      by_order Greater h rest = absurd (let le : is_le (cmp x.0 k) ≡ true = all.0 in let over = rw h at le in cc)
  below_is (x ∷ (y ∷ left)) before ascending none all =
      last_more x y left ∙ rw smaller (by_found (pair_at cmp (y ∷ (left ++ before)) k) (below cmp (y ∷ (left ++ before)) k) (below_is (y ∷ left) before ascending.1 none all.1))
    where
      smaller : cmp x.0 k ≡ Less
      smaller = by_order (cmp y.0 k) refl
        where
          by_order : (r : Ordering) → cmp y.0 k ≡ r → cmp x.0 k ≡ Less
          by_order Less h = o.trans x.0 y.0 k ascending.0.0 h
          by_order Equal h = grind (arith, o.congr, o.trans, h, ascending.0.0)
          by_order Greater h = absurd (let le : is_le (cmp y.0 k) ≡ true = all.1.0 in let over = rw h at le in cc)

      by_found : (found : Option (K × V)) (less : List (K × V)) → last_of (y ∷ left) ≡ option_or found (last_of less) → last_of (y ∷ left) ≡ option_or found (last_of (x ∷ less))
      by_found (Some pair) less rest = rest
      by_found None [] rest = absurd (let none = none_last_of (y ∷ left) rest in cc)
      by_found None (z ∷ less) rest = rest ∙ sym (last_more x z less)

  -- so it is the first of those that meet the key on the way
  pub nearest_is : (way : Way) (l before left : List (K × V)) → IsAscending cmp l → along way l ≡ before ++ left → NoneMeets cmp k way before → AllMeet cmp k way left
      → first_of left ≡ nearest way cmp l k
  nearest_is On l before left ascending parts none all =
      let whole : l ≡ before ++ left = parts in
      rw whole (above_is before left (rw whole at ascending) none all)
  nearest_is Back l before left ascending parts none all =
      let whole : l ≡ reverse left ++ reverse before = sym (reverse-reverse l) ∙ ap reverse parts ∙ reverse-append before left in
      let last : last_of (reverse left) ≡ first_of left = first_along Back (reverse left) ∙ ap first_of (reverse-reverse left) in
      rw whole (sym last ∙ below_is (reverse left) (reverse before) (rw whole at ascending) (all_along _ Back before none) (all_along _ Back left all))

module _ {X : Type 0} (test : X → Bool) where
  filter_reverse : (xs : List X) → filter test (reverse xs) ≡ reverse (filter test xs)
  filter_reverse [] = refl
  filter_reverse (x ∷ xs) = rw (reverse_onto xs x [], filter-append test (reverse xs) (x ∷ []), filter_reverse xs)
      (grind (arith, reverse_onto (filter test xs) x [], append-nil (reverse (filter test xs))))

  filter_along : (way : Way) (xs : List X) → filter test (along way xs) ≡ along way (filter test xs)
  filter_along On xs = refl
  filter_along Back xs = filter_reverse xs

  filter_twice : (xs : List X) → filter test (filter test xs) ≡ filter test xs
  filter_twice xs = filter_all test (filter test xs) (all_passed (λ x. test x ≡ true) test (λ x pass. pass) xs)

  all_failed : (xs : List X) → filter test xs ≡ [] → AllByRecursion (λ x. test x ≡ false) xs
  all_failed [] none = tt
  all_failed (x ∷ xs) none = by_test (all_failed xs) (test x) refl
    where
      by_test : (filter test xs ≡ [] → AllByRecursion (λ x. test x ≡ false) xs) → (b : Bool) → test x ≡ b → (test x ≡ false) × AllByRecursion (λ x. test x ≡ false) xs
      by_test rest true h = absurd (let some = rw h at none in cc)
      by_test rest false h = (h, rest (rw h at none))

  -- behind those that pass a test none does
  others_fail : (way : Way) (xs rest : List X) → along way xs ≡ along way (filter test xs) ++ rest → AllByRecursion (λ x. test x ≡ false) rest
  others_fail way xs rest parts =
      let some = along way (filter test xs) in
      let again : some ≡ some ++ filter test rest =
      sym (filter_along way xs) ∙ ap (filter test) parts ∙ filter-append test some rest
      ∙ ap (λ ys. ys ++ filter test rest) (filter_along way (filter test xs) ∙ ap (along way) (filter_twice xs)) in
      all_failed rest (nil_from_length (filter test rest) (omega (arith, ap length again, length-append some (filter test rest))))

not_false : (b : Bool) → not b ≡ false → b ≡ true
not_false true h = refl
not_false false h = absurd (cc)

not_true : (b : Bool) → not b ≡ true → b ≡ false
not_true true h = absurd (cc)
not_true false h = refl

-- what was taken first
first_taken : {K V : Type 0} (left rest : List (K × V)) (result : Option (Bor K × Bor V)) → TakesFirst lent_entry left result rest → lent result ≡ first_of left
first_taken left rest None takes = rw takes.0 refl
first_taken left rest (Some entry) takes = rw takes refl

module _ {K V : Type 0} {LEN : ℕ} {cmp : K → K → Ordering} (o : IsTotalOrder cmp) (a : TreeArenas K V LEN) (k : K) (way : Way) (root : Root) (leaf : ℕ) (is : IsLeafFor cmp k root.level a root.id leaf) where
  -- the pairs of the leaves before the leaf on the way don't meet the key, and those beyond it do
  none_before : NoneMeets cmp k way (entries_of a.leaves (passed way is.front is.back))
  none_before = elim way as (λ way. NoneMeets cmp k way (entries_of a.leaves (passed way is.front is.back))) [
    | On ↦ all_map (λ (pair : K × V) (less : cmp pair.0 k ≡ Less). rw (greater_from_less o pair.0 k less) refl) (entries_of a.leaves is.front) is.smaller
    | Back ↦ all_map (λ (pair : K × V) (less : cmp k pair.0 ≡ Less). rw (greater_from_less o k pair.0 less) refl) (entries_of a.leaves is.back) is.larger
  ]

  all_beyond : AllMeet cmp k way (entries_of a.leaves (beyond way is.front is.back))
  all_beyond = elim way as (λ way. AllMeet cmp k way (entries_of a.leaves (beyond way is.front is.back))) [
    | On ↦ all_map (λ (pair : K × V) (less : cmp k pair.0 ≡ Less). rw less refl) (entries_of a.leaves is.back) is.larger
    | Back ↦ all_map (λ (pair : K × V) (less : cmp pair.0 k ≡ Less). rw less refl) (entries_of a.leaves is.front) is.smaller
  ]

  -- and all pairs are those before it, its own and those beyond it
  in_parts : along way (walk_under a (Some root))
      ≡ along way (entries_of a.leaves (passed way is.front is.back)) ++ (along way (leaf_entries a.leaves leaf) ++ along way (entries_of a.leaves (beyond way is.front is.back)))
  in_parts = rw (is.parts, flat_map-append (leaf_entries a.leaves) is.front (leaf ∷ is.back)) (by_way way)
    where
      by_way : (way : Way) → along way (entries_of a.leaves is.front ++ (leaf_entries a.leaves leaf ++ entries_of a.leaves is.back))
          ≡ along way (entries_of a.leaves (passed way is.front is.back)) ++ (along way (leaf_entries a.leaves leaf) ++ along way (entries_of a.leaves (beyond way is.front is.back)))
      by_way On = refl
      by_way Back =
          rw (reverse-append (entries_of a.leaves is.front) (leaf_entries a.leaves leaf ++ entries_of a.leaves is.back), reverse-append (leaf_entries a.leaves leaf) (entries_of a.leaves is.back))
          (append_assoc (reverse (entries_of a.leaves is.back)) (reverse (leaf_entries a.leaves leaf)) (reverse (entries_of a.leaves is.front)))

  -- what a walk comes to that has gone past the key in its leaf
  module _ (tree : IsTree cmp a (Some root)) (at : Option ℕ)
      (parts : along way (leaf_entries a.leaves leaf) ≡ along way (filter (λ pair. not (meets cmp way (Included k) pair.0)) (leaf_entries a.leaves leaf)) ++ ahead way (leaf_entries a.leaves leaf) at) where
    abbrev before : List (K × V)
    before = along way (entries_of a.leaves (passed way is.front is.back))

    abbrev unmet : List (K × V)
    unmet = along way (filter (λ pair. not (meets cmp way (Included k) pair.0)) (leaf_entries a.leaves leaf))

    abbrev beyond_it : List (K × V)
    beyond_it = along way (entries_of a.leaves (beyond way is.front is.back))

    abbrev left : List (K × V)
    left = ahead way (leaf_entries a.leaves leaf) at ++ beyond_it

    whole : along way (walk_under a (Some root)) ≡ (before ++ unmet) ++ left
    whole = in_parts ∙ ap (λ ys. before ++ (ys ++ beyond_it)) parts ∙ simp append_assoc

    none : NoneMeets cmp k way (before ++ unmet)
    none = all-append _ before unmet (all_along _ way _ none_before)
        (all_along _ way _ (all_passed _ _ (λ (pair : K × V) (out : not (meets cmp way (Included k) pair.0) ≡ true). not_true (meets cmp way (Included k) pair.0) out) (leaf_entries a.leaves leaf)))

    all : AllMeet cmp k way left
    all = all-append _ (ahead way (leaf_entries a.leaves leaf) at) beyond_it
        (all_map (λ (pair : K × V) (met : not (meets cmp way (Included k) pair.0) ≡ false). not_false (meets cmp way (Included k) pair.0) met) _
        (others_fail (λ pair. not (meets cmp way (Included k) pair.0)) way (leaf_entries a.leaves leaf) (ahead way (leaf_entries a.leaves leaf) at) parts))
        (all_along _ way _ all_beyond)

    pub walk_finds : (new : LeafWalk K V LEN) (result : Option (Bor K × Bor V)) → Takes way (standing a.leaves leaf at) result new → lent result ≡ nearest way cmp (walk_under a (Some root)) k
    walk_finds new result takes =
        let chain : IsChain a.leaves (is.front ++ leaf ∷ is.back) = rw is.parts at tree.chain in
        first_taken left _ result (takes is.front is.back chain).takes
        ∙ nearest_is o k way (walk_under a (Some root)) (before ++ unmet) left (pairs_ascend a (Some root) tree o) whole none all

module _ {K V : Type 0} {LEN : ℕ} {cmp : K → K → Ordering} (o : IsTotalOrder cmp) (a : TreeArenas K V LEN) (k : K) (leaf : ℕ) where
  -- the leaf is one of the chain
  pub in_chain : (root : Option Root) → IsTree cmp a root → LeafUnder cmp a root k (Some leaf) → (front back : List ℕ) × IsChain a.leaves (front ++ leaf ∷ back)
  in_chain None tree none = absurd (cc)
  in_chain (Some root) tree is = (is.front, is.back, rw is.parts at tree.chain)

  pub finds_under : (way : Way) (root : Option Root) → IsTree cmp a root → LeafUnder cmp a root k (Some leaf) → (at : Option ℕ)
      → along way (leaf_entries a.leaves leaf) ≡ along way (filter (λ pair. not (meets cmp way (Included k) pair.0)) (leaf_entries a.leaves leaf)) ++ ahead way (leaf_entries a.leaves leaf) at
      → (new : LeafWalk K V LEN) (result : Option (Bor K × Bor V)) → Takes way (standing a.leaves leaf at) result new → lent result ≡ nearest way cmp (walk_under a root) k
  finds_under way None tree none at parts new result takes = absurd (cc)
  finds_under way (Some root) tree is at parts new result takes = walk_finds o a k way root leaf is tree at parts new result takes

-- without a leaf there is no pair
pub none_nearest : {K V : Type 0} (way : Way) (cmp : K → K → Ordering) (l : List (K × V)) (k : K) → l ≡ [] → None ≡ nearest way cmp l k
none_nearest On cmp l k none = rw none refl
none_nearest Back cmp l k none = rw none refl
