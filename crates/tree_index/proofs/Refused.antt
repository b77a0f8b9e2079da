-- How the pairs that a test refuses go one by one.
use Rattle.std.proofs.Common.{◌≡◌, ◌<◌, Bool, true, false, ◌&&◌, List, [], ◌∷◌, ◌++◌, filter, length, Option, Some, None, refl, sym, ap, ◌∙◌, arith, append-nil, append_assoc, Bor, is_eq, is_lt, Ordering, Less}
use Rattle.tree_model.proofs.Common.{IsTotalOrder, AllByRecursion, Bound, Excluded, Unbounded, tied_itself, filter-append, AllLarger, IsAscending, pair_at, within, without, Cursor, fresh, rest}
use Rattle.tree_model.specs.declared.way.Way.TheVariants.{On}
use Rattle.tree_array.proofs.Common.{all_map, filter_all, filter_none, greater_from_less}
use Rattle.std.specs.Fn.{Called, Mut}
use Rattle.std.proofs.lemmas.Fn.{FoldsTo-push}
use Rattle.tree_model.proofs.Lists.{all_passed, find_kept}
use Rattle.tree_model.proofs.Lengths.{without_present}
use Rattle.tree_model.proofs.Ascending.{IsAscending-filter}
use Rattle.tree_model.proofs.LookUps.{found_first, same_within}
use Rattle.tree_node.proofs.Between.{found_between, without_between}
use Rattle.tree_cursors.proofs.Yields.{rest_fresh}
use Rattle.tree_views.proofs.Walked.{all_pass}
use Rattle.tree_index.specs.Retained.{AnswersAt, Passes, Refuses, Retains, low_behind}

-- the sides of a pair in an ascending list
module _ {K V : Type 0} (cmp : K → K → Ordering) where
  larger_at : (x : K) (front : List (K × V)) (p : K × V) (back : List (K × V)) → AllLarger cmp x (front ++ p ∷ back) → cmp x p.0 ≡ Less
  larger_at x [] p back larger = larger.0
  larger_at x (q ∷ front) p back larger = larger_at x front p back larger.1

  pub smaller_front : (front : List (K × V)) (p : K × V) (back : List (K × V)) → IsAscending cmp (front ++ p ∷ back) → AllByRecursion (λ q. cmp q.0 p.0 ≡ Less) front
  smaller_front [] p back ascending = tt
  smaller_front (q ∷ front) p back ascending = (larger_at q.0 front p back ascending.0, smaller_front front p back ascending.1)

  pub larger_back : (front : List (K × V)) (p : K × V) (back : List (K × V)) → IsAscending cmp (front ++ p ∷ back) → AllLarger cmp p.0 back
  larger_back [] p back ascending = ascending.0
  larger_back (q ∷ front) p back ascending = larger_back front p back ascending.1

module _ {K V : Type 0} {cmp : K → K → Ordering} (o : IsTotalOrder cmp) where
  -- the pairs behind a key
  pub behind : (key : K) (front back : List (K × V)) → AllByRecursion (λ q. cmp q.0 key ≡ Less) front → AllLarger cmp key back → filter (λ pair. within cmp (Excluded key) Unbounded pair.0) (front ++ back) ≡ back
  behind key front back smaller larger =
      rw (
        filter-append,
        filter_none (λ pair. is_lt (cmp key pair.0) && true) front (all_map (λ q h. ap (λ c. is_lt c && true) (greater_from_less o q.0 key h)) front smaller),
        filter_all (λ pair. is_lt (cmp key pair.0) && true) back (all_map (λ q h. ap (λ c. is_lt c && true) h) back larger),
      ) refl

  -- a list without one of its pairs
  pub without_it : (front : List (K × V)) (p : K × V) (back : List (K × V)) → IsAscending cmp (front ++ p ∷ back) → without cmp (front ++ p ∷ back) p.0 ≡ front ++ back
  without_it front p back ascending =
      without_between o p.0 front (p ∷ []) back (smaller_front cmp front p back ascending) (larger_back cmp front p back ascending) ∙ rw (tied_itself o p.0) refl

-- a pair from a bound on is found at its key
module _ {K V : Type 0} {cmp : K → K → Ordering} (o : IsTotalOrder cmp) (low : Bound K) where
  at_middle : (P : K × V → Type 0) (front : List (K × V)) (p : K × V) (back : List (K × V)) → AllByRecursion P (front ++ p ∷ back) → P p
  at_middle P [] p back all = all.0
  at_middle P (q ∷ front) p back all = at_middle P front p back all.1

  pub found_within : (pairs front : List (K × V)) (p : K × V) (back : List (K × V)) → IsAscending cmp pairs → filter (λ pair. within cmp low Unbounded pair.0) pairs ≡ front ++ p ∷ back → pair_at cmp pairs p.0 ≡ Some p
  found_within pairs front p back ascending split =
      let passes : AllByRecursion (λ pair. within cmp low Unbounded pair.0 ≡ true) (front ++ p ∷ back) = rw split at (all_passed (λ pair. within cmp low Unbounded pair.0 ≡ true) (λ pair. within cmp low Unbounded pair.0) (λ pair h. h) pairs) in
      let p_passes = at_middle (λ pair. within cmp low Unbounded pair.0 ≡ true) front p back passes in
      let ascends : IsAscending cmp (front ++ p ∷ back) = rw split at (IsAscending-filter cmp (λ pair. within cmp low Unbounded pair.0) pairs ascending) in
      sym (find_kept (λ pair. is_eq (cmp pair.0 p.0)) (λ pair. within cmp low Unbounded pair.0) (λ pair same. same_within o p.0 low Unbounded pair same ∙ p_passes) pairs)
      ∙ ap (λ (l : List (K × V)). pair_at cmp l p.0) split
      ∙ found_between o p.0 front (p ∷ []) back (smaller_front cmp front p back ascends) (larger_back cmp front p back ascends)
      ∙ found_first o p []

-- what a new cursor from a bound on has left
pub from_low : {K V : Type 0} (cmp : K → K → Ordering) (low : Bound K) (pairs : List (K × V)) (c : Cursor K V) → c ≡ fresh pairs low Unbounded → rest cmp On c ≡ filter (λ pair. within cmp low Unbounded pair.0) pairs
from_low cmp low pairs c new = rw new (rest_fresh cmp (fresh pairs low Unbounded) (record { forward = refl; backward = refl }) On)

-- all pairs are from an open bound on
pub from_open : {K V : Type 0} (cmp : K → K → Ordering) (pairs : List (K × V)) → filter (λ pair. within cmp Unbounded Unbounded pair.0) pairs ≡ pairs
from_open cmp pairs = filter_all (λ pair. true) pairs (all_pass pairs)

module _ {F K V : Type 0} (calls : Mut F (Bor K × (Bor V × Unit {0})) Bool) where
  -- the test said yes of the pairs in front of those that are left
  pub record HasPassed (start : F) (pairs : List (K × V)) (f : F) (left : List (K × V)) : Type 0 where
    pub front : List (K × V)
    pub split : pairs ≡ front ++ left
    pub passed : Passes calls start front f

  module _ (start : F) (pairs : List (K × V)) (f : F) (left rest : List (K × V)) (key : Bor K) (value : Bor V) (has : HasPassed start pairs f left) (first : left ≡ (key.now, value.now) ∷ rest) (f' : F) where
    -- of one more
    pub passes_more : Called calls f (key, (value, tt)) true f' → HasPassed start pairs f' rest
    passes_more called = record {
      front = has.front ++ (key.now, value.now) ∷ [];
      split = has.split ∙ rw (first, append_assoc has.front ((key.now, value.now) ∷ []) rest) refl;
      passed = FoldsTo-push (λ g pair g'. AnswersAt calls g pair true g') start has.front f (key.now, value.now) f' has.passed (record { key = key; value = value; same_key = refl; same_value = refl; called = called });
    }

    -- and no of the next one
    pub refuses_next : Called calls f (key, (value, tt)) false f' → Refuses calls start pairs (key.now, value.now) f'
    refuses_next called = record {
      front = has.front;
      back = rest;
      split = has.split ∙ rw first refl;
      between = f;
      passed = has.passed;
      refused = record { key = key; value = value; same_key = refl; same_value = refl; called = called };
    }

  pub passed_all : (start : F) (pairs : List (K × V)) (f : F) (left : List (K × V)) → HasPassed start pairs f left → left ≡ [] → Passes calls start pairs f
  passed_all start pairs f left has none = rw (has.split, none, append-nil has.front) has.passed

  -- a test that says yes of all leaves all
  pub retains_all : (f : F) (pairs : List (K × V)) (f' : F) → Passes calls f pairs f' → Retains calls f pairs pairs
  retains_all f [] f' passed = refl
  retains_all f (p ∷ pairs) f' passed = (true, passed.0, pairs, passed.1, retains_all passed.0 pairs f' passed.2, refl)

  -- one that says no of a pair leaves those before it, and what it leaves of those behind it
  pub retains_on : (f : F) (front : List (K × V)) (g : F) (pair : K × V) (f' : F) (back left : List (K × V)) → Passes calls f front g → AnswersAt calls g pair false f' → Retains calls f' back left
      → Retains calls f (front ++ pair ∷ back) (front ++ left)
  retains_on f [] g pair f' back left passed refused rest = (false, f', left, rw passed refused, rest, refl)
  retains_on f (p ∷ front) g pair f' back left passed refused rest =
      (true, passed.0, front ++ left, passed.1, retains_on passed.0 front g pair f' back left passed.2 refused rest, refl)

  module _ (cmp : K → K → Ordering) (start : F) (old : List (K × V)) where
    -- A pair was refused. Those in front of it stay, and of those behind it the test is still to be asked.
    pub record IsUnderWay (f : F) (key : K) (now : List (K × V)) : Type 0 where
      pub front : List (K × V)
      pub back : List (K × V)
      pub parts : now ≡ front ++ back
      pub smaller : AllByRecursion (λ q. cmp q.0 key ≡ Less) front
      pub larger : AllLarger cmp key back
      pub completes : (left : List (K × V)) → Retains calls f back left → Retains calls start old (front ++ left)

    -- before the first one, or behind one that is gone
    abbrev pub IsAsked : Option (K × V) → F → List (K × V) → Type 0
    IsAsked None f now = (f ≡ start) × (now ≡ old)
    IsAsked (Some gone) f now = IsUnderWay f gone.0 now

  module _ {cmp : K → K → Ordering} (o : IsTotalOrder cmp) (start : F) (old : List (K × V)) where
    -- the first one
    pub begins : (f : F) (pair : K × V) (now : List (K × V)) → IsAscending cmp old → Refuses calls start old pair f → now ≡ without cmp old pair.0 → IsUnderWay cmp start old f pair.0 now
    begins f pair now ascending r left =
        let ascends : IsAscending cmp (r.front ++ pair ∷ r.back) = rw r.split at ascending in
        record {
          front = r.front;
          back = r.back;
          parts = left ∙ rw r.split (without_it o r.front pair r.back ascends);
          smaller = smaller_front cmp r.front pair r.back ascends;
          larger = larger_back cmp r.front pair r.back ascends;
          completes = λ rest h. rw r.split (retains_on start r.front r.between pair f r.back rest r.passed r.refused h);
        }

    module _ (f g : F) (key : K) (now : List (K × V)) (on : IsUnderWay cmp start old f key now) where
      still_behind : filter (λ pair. within cmp (Excluded key) Unbounded pair.0) now ≡ on.back
      still_behind = rw on.parts (behind o key on.front on.back on.smaller on.larger)

      -- a further one
      pub goes_further : (pair : K × V) (new : List (K × V)) → IsAscending cmp now → Refuses calls f (filter (λ pair. within cmp (Excluded key) Unbounded pair.0) now) pair g → new ≡ without cmp now pair.0 → IsUnderWay cmp start old g pair.0 new
      goes_further pair new ascending r left =
          let split : on.back ≡ r.front ++ pair ∷ r.back = sym still_behind ∙ r.split in
          let parts : now ≡ (on.front ++ r.front) ++ pair ∷ r.back = on.parts ∙ rw (split, append_assoc on.front r.front (pair ∷ r.back)) refl in
          let ascends : IsAscending cmp ((on.front ++ r.front) ++ pair ∷ r.back) = rw parts at ascending in
          record {
            front = on.front ++ r.front;
            back = r.back;
            parts = left ∙ rw parts (without_it o (on.front ++ r.front) pair r.back ascends);
            smaller = smaller_front cmp (on.front ++ r.front) pair r.back ascends;
            larger = larger_back cmp (on.front ++ r.front) pair r.back ascends;
            completes = λ rest h. rw (append_assoc on.front r.front rest) (on.completes (r.front ++ rest) (rw split (retains_on f r.front r.between pair g r.back rest r.passed r.refused h)));
          }

      -- no further one
      pub is_done : Passes calls f (filter (λ pair. within cmp (Excluded key) Unbounded pair.0) now) g → Retains calls start old now
      is_done passed = rw on.parts (on.completes on.back (retains_all f on.back g (rw still_behind at passed)))

    module _ (f g : F) (now : List (K × V)) where
      pub asks_on : (gone : Option (K × V)) → IsAsked cmp start old gone f now → (pair : K × V) (new : List (K × V)) → IsAscending cmp now → Refuses calls f (filter (λ pair. within cmp (low_behind gone) Unbounded pair.0) now) pair g → new ≡ without cmp now pair.0
          → IsAsked cmp start old (Some pair) g new
      asks_on None asked pair new ascending r left =
          begins g pair new (rw asked.1 at ascending) (rw (asked.0, asked.1, from_open cmp old) at r) (left ∙ ap (λ (l : List (K × V)). without cmp l pair.0) asked.1)
      asks_on (Some gone) on pair new ascending r left = goes_further f g gone.0 now on pair new ascending r left

      pub asks_no_more : (gone : Option (K × V)) → IsAsked cmp start old gone f now → Passes calls f (filter (λ pair. within cmp (low_behind gone) Unbounded pair.0) now) g → Retains calls start old now
      asks_no_more None asked passed = rw asked.1 (retains_all start old g (rw (asked.0, asked.1, from_open cmp old) at passed))
      asks_no_more (Some gone) on passed = is_done f g gone.0 now on passed

    -- each one makes the list shorter
    pub one_fewer : (f g : F) (low : Bound K) (now new : List (K × V)) (pair : K × V) → IsAscending cmp now → Refuses calls f (filter (λ pair. within cmp low Unbounded pair.0) now) pair g → new ≡ without cmp now pair.0 → length new < length now
    one_fewer f g low now new pair ascending r left =
        let present = found_within o low now r.front pair r.back ascending r.split in
        omega (arith, ap length left, without_present o now pair.0 ascending (rw present refl))
