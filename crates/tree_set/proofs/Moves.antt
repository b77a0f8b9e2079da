-- What a move of a cursor takes of the elements that are left.
use Rattle.std.proofs.Common.{◌≡◌, Bool, true, false, if◌then◌else◌, List, [], ◌∷◌, ◌++◌, reverse, length, take, drop, ◌<◌, ℕ, Option, Some, None, Bor, append-nil, length-append, refl, sym, ap, ◌∙◌, arith, filter, option_map, Ordering, take-append-drop}
use Rattle.tree_model.proofs.Common.{⊤, MakesProgress, IsTotalOrder, reverse_onto, map-append, reverse-reverse, filter-append, lent_entry, Moves, rest, within, Cursor}
use Rattle.tree_model.specs.declared.way.Way.TheVariants.{On, Back}
use Rattle.std.specs.Iterator.{YieldsFirstBy, YieldsFirstRef, YieldsLastBy, YieldsLastRef, item_count}
use Rattle.tree_model.specs.Rest.{between, piece}
use Rattle.tree_model.proofs.Ascending.{IsAscending-filter}
use Rattle.tree_node.proofs.Cuts.{ascending_behind, ascending_front}
use Rattle.tree_cursors.specs.Ranged.{IsFresh, pairs_within}
use Rattle.tree_cursors.proofs.Yields.{fresh_begun, rest_fresh, takes_first}
use Rattle.tree_set.specs.Ranged.{HasBegunBoth, left_of}
use Rattle.tree_set.specs.Sets.{IsAscending, keys_of}
use Rattle.tree_set.proofs.Keys.{keys_ascend}
use Rattle.tree_model.specs.Pairs as pairs

-- a filter keeps the same elements in the other order
filter-reverse : {X : Type 0} (test : X → Bool) (xs : List X) → filter test (reverse xs) ≡ reverse (filter test xs)
filter-reverse test [] = refl
filter-reverse test (x ∷ xs) = rw (reverse_onto xs x [], filter-append test (reverse xs) (x ∷ []), filter-reverse test xs) (by_test (test x))
  where
    by_test : (b : Bool) → reverse (filter test xs) ++ (if b then x ∷ [] else []) ≡ reverse (if b then x ∷ filter test xs else filter test xs)
    by_test true = sym (reverse_onto (filter test xs) x [])
    by_test false = append-nil (reverse (filter test xs))

-- the key of a pair that a cursor lends, if it lends one
abbrev pub key_of : {K V : Type 0} → Option (Bor K × Bor V) → Option (Bor K)
key_of r = option_map (λ pair. pair.0) r

-- the elements of a list but for its last one
last_taken : {X : Type 0} (left others : List X) (x : X) → reverse left ≡ x ∷ reverse others → left ≡ others ++ x ∷ []
last_taken left others x h = sym (reverse-reverse left) ∙ ap (λ l. reverse l) h ∙ reverse_onto (reverse others) x [] ∙ ap (λ l. l ++ x ∷ []) (reverse-reverse others)

none_left : {X : Type 0} (left : List X) → reverse left ≡ [] → left ≡ []
none_left left h = sym (reverse-reverse left) ∙ ap (λ l. reverse l) h

module _ {K V : Type 0} {cmp : K → K → Ordering} (o : IsTotalOrder cmp) where
  rest_back : (c : Cursor K V) → rest cmp Back c ≡ reverse (rest cmp On c)
  rest_back c = filter-reverse (λ pair. within cmp c.low c.high pair.0) (between c)

  -- a move of either end leaves both ends where they may be
  pub begun_on : (s t : Cursor K V) (r : Option (Bor K × Bor V)) → Moves cmp On s r t → HasBegunBoth cmp s → HasBegunBoth cmp t
  begun_on s t r moves begun = record {
    forward = (takes_first o On s t r moves begun.forward).0;
    backward = rw moves.moves begun.backward;
  }

  pub begun_back : (s t : Cursor K V) (r : Option (Bor K × Bor V)) → Moves cmp Back s r t → HasBegunBoth cmp s → HasBegunBoth cmp t
  begun_back s t r moves begun = record {
    forward = rw moves.moves begun.forward;
    backward = (takes_first o Back s t r moves begun.backward).0;
  }

  -- the forward end takes the first element that is left, and the backward end the last
  pub takes_on : (s t : Cursor K V) (r : Option (Bor K × Bor V)) → Moves cmp On s r t → HasBegunBoth cmp s → YieldsFirstRef (λ l. l) (left_of cmp s) (key_of r) (left_of cmp t)
  takes_on s t None moves begun =
      let takes = (takes_first o On s t None moves begun.forward).1 in
      (ap keys_of takes.0, ap keys_of takes.1)
  takes_on s t (Some pair) moves begun = ap keys_of (takes_first o On s t (Some pair) moves begun.forward).1

  pub takes_back : (s t : Cursor K V) (r : Option (Bor K × Bor V)) → Moves cmp Back s r t → HasBegunBoth cmp s → YieldsLastRef (λ l. l) (left_of cmp s) (key_of r) (left_of cmp t)
  takes_back s t None moves begun =
      let takes = (takes_first o Back s t None moves begun.backward).1 in
      (ap keys_of (none_left (rest cmp On s) (sym (rest_back s) ∙ takes.0)), ap keys_of (none_left (rest cmp On t) (sym (rest_back t) ∙ takes.1)))
  takes_back s t (Some pair) moves begun =
      let takes = (takes_first o Back s t (Some pair) moves begun.backward).1 in
      let last = last_taken (rest cmp On s) (rest cmp On t) (lent_entry pair) (sym (rest_back s) ∙ takes ∙ ap (λ (l : List (K × V)). lent_entry pair ∷ l) (rest_back t)) in
      ap keys_of last ∙ map-append (λ p. p.0) (rest cmp On t) (lent_entry pair ∷ [])

-- a cursor that was never moved
module _ {K V : Type 0} (cmp : K → K → Ordering) (c : Cursor K V) (new : IsFresh c) where
  pub begun_fresh : HasBegunBoth cmp c
  begun_fresh = record { forward = fresh_begun cmp c new On; backward = fresh_begun cmp c new Back }

  pub left_fresh : left_of cmp c ≡ keys_of (pairs_within cmp c)
  left_fresh = ap keys_of (rest_fresh cmp c new On)

module _ {K V : Type 0} (cmp : K → K → Ordering) where
  piece_ascends : (l : List (K × V)) (a b : ℕ) → pairs.IsAscending cmp l → pairs.IsAscending cmp (piece l a b)
  piece_ascends l a b h =
      let front = ascending_front cmp (take b l) (drop b l) (rw (take-append-drop b l) h) in
      ascending_behind cmp (take a (take b l)) (piece l a b) (rw (take-append-drop a (take b l)) front)

  -- what is left of an ascending list ascends
  pub left_ascends : (c : Cursor K V) → pairs.IsAscending cmp c.pairs → IsAscending cmp (left_of cmp c)
  left_ascends c h = keys_ascend cmp (rest cmp On c) (IsAscending-filter cmp (λ pair. within cmp c.low c.high pair.0) (between c) (piece_ascends c.pairs _ _ h))

-- each element that is given leaves one less
module _ {A X : Type 0} (view : A → X) where
  pub first_progress : (s t : List X) (r : Option A) → YieldsFirstBy view (λ l. l) s r t → MakesProgress (λ l. ⊤) (item_count (λ l. l)) s r t
  first_progress s t None h = record { on = λ _. tt; keeps = tt; rests = λ _. tt }
  first_progress s t (Some x) h = let less : length t < length s = rw h (omega arith) in record { on = λ _. (tt, tt, less); keeps = tt; rests = λ _. tt }

  pub last_progress : (s t : List X) (r : Option A) → YieldsLastBy view (λ l. l) s r t → MakesProgress (λ l. ⊤) (item_count (λ l. l)) s r t
  last_progress s t None h = record { on = λ _. tt; keeps = tt; rests = λ _. tt }
  last_progress s t (Some x) h = let less : length t < length s = rw (h, length-append) (omega arith) in record { on = λ _. (tt, tt, less); keeps = tt; rests = λ _. tt }
