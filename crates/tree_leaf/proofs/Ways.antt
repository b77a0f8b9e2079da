-- The way that links lead from a leaf: which leaves they pass, that it ends, and where a jump lands.
use Rattle.tree_leaf.proofs.ChainCommon.{is_some, ◌≡◌, ℕ, zero, suc, ◌+◌, ◌<◌, ◌≤◌, ◌==◌, true, false, List, [], ◌∷◌, ◌++◌, length, Option, Some, None, IsSome, option_map, sum_by, refl, sym, ap, ◌∙◌}
use Rattle.tree_leaf.proofs.ChainCommon.{arith, length-append, nat_tests, reverse_aux, Back, IsChain, LeafOf, On, Slab, Way, beside, chain_used, first_or, get, landing, last_or, leaf_entries, leaves_on}
use Rattle.tree_leaf.proofs.ChainCommon.{length-reverse, neighbours, seen, seen_at, count_by-le-length, sum_by-cons, once_fits, Beside}
use Rattle.std.proofs.Common.{if◌then◌else◌, option_and_then}
use Rattle.tree_leaf.proofs.Jumps.{onward}

-- the number of the leaf that is seen
abbrev pub number_of : Option Beside → Option ℕ
number_of ahead = option_map (λ next. next.id) ahead

-- what is seen is what there is to see, and where nothing is seen there is nothing to say
pub seen_if_some : {X : Type 0} (seen there : Option X) → seen ≡ there → seen ≡ (if is_some seen then there else None)
seen_if_some None there same = refl
seen_if_some (Some next) there same = same

first_is : (ids : List ℕ) (id : ℕ) → Some id ≡ first_or ids None → (rest : List ℕ) × (ids ≡ id ∷ rest)
first_is [] id is = absurd (cc)
first_is (x ∷ ids) id is = let same : x ≡ id = cc in (ids, ap (λ n. n ∷ ids) same)

last_is : (before : Option ℕ) (ids passed : List ℕ) → first_or passed None ≡ before → last_or before ids ≡ first_or (reverse_aux ids passed) None
last_is before [] passed is = sym is
last_is before (id ∷ ids) passed is = last_is (Some id) ids (id ∷ passed) refl

module _ {K V : Type 0} {LEN : ℕ} (leaves : Slab (LeafOf K V LEN)) (way : Way) where
  -- what is seen of a leaf keeps its number
  pub number_seen : (next : Option ℕ) → number_of (seen way leaves next) ≡ next
  number_seen None = refl
  number_seen (Some id) = refl

  -- and is all that there is to see
  pub seen_whole : (next : Beside) (id : Option ℕ) → Some next ≡ seen way leaves id → (id ≡ Some next.id) × (next ≡ seen_at way leaves next.id)
  seen_whole next None looked = absurd (cc)
  seen_whole next (Some id) looked = let same : next ≡ seen_at way leaves id = cc in rw same (refl, refl)

  -- the leaf beyond it is the one beside it
  pub beyond_beside : (next : Beside) (leaf : LeafOf K V LEN) → next ≡ seen_at way leaves next.id → get leaves next.id ≡ Some leaf → next.beyond ≡ beside way leaf
  beyond_beside next leaf whole here = ap (λ n. n.beyond) whole ∙ rw here refl

  -- a leaf of a chain, from which the way leads through these leaves
  pub record At (id : ℕ) (ids : List ℕ) : Type 0 where
    pub front : List ℕ
    pub back : List ℕ
    pub chain : IsChain leaves (front ++ id ∷ back)
    pub on : leaves_on way front back ≡ ids

  on_to : (id next : ℕ) (ids : List ℕ) → At id (next ∷ ids) → At next ids
  on_to id next ids at = let to = onward way at.front id at.back [] next ids at.on in record {
    front = to.front;
    back = to.back;
    chain = rw to.stands at.chain;
    on = to.rest;
  }

  module _ (id : ℕ) (ids : List ℕ) (at : At id ids) where
    used : IsSome (get leaves id)
    used = chain_used leaves at.front id at.back at.chain

    -- they are no more than there are, and the first of them is the one that the leaf links to
    pub few : length ids ≤ length leaves.slots
    few = omega (arith, ap length at.on, by_way way, once_fits leaves (at.front ++ id ∷ at.back) at.chain.once, count_by-le-length is_some leaves.slots)
      where
        by_way : (way : Way) → length (leaves_on way at.front at.back) ≤ length (at.front ++ id ∷ at.back)
        by_way On = omega (arith, length-append at.front (id ∷ at.back))
        by_way Back = omega (arith, length-append at.front (id ∷ at.back), length-reverse at.front)

    beside_is : (leaf : LeafOf K V LEN) → get leaves id ≡ Some leaf → beside way leaf ≡ first_or ids None
    beside_is leaf here = by_way way ∙ ap (λ l. first_or l None) at.on
      where
        by_way : (way : Way) → beside way leaf ≡ first_or (leaves_on way at.front at.back) None
        by_way On = sym (neighbours leaves at.front id at.back at.chain leaf here).1
        by_way Back = sym (neighbours leaves at.front id at.back at.chain leaf here).0 ∙ last_is None at.front [] refl

  pub link_is : (id : ℕ) (ids : List ℕ) → At id ids → option_and_then (beside way) (get leaves id) ≡ first_or ids None
  link_is id ids at = by_slot (get leaves id) refl (used id ids at)
    where
      by_slot : (slot : Option (LeafOf K V LEN)) → get leaves id ≡ slot → IsSome slot → option_and_then (beside way) slot ≡ first_or ids None
      by_slot None is there = absurd (cc)
      by_slot (Some leaf) is there = beside_is id ids at leaf is

  -- a sum over the leaves to which the links lead from a number, counted up to a bound
  unfoldable pub sum_on : (ℕ → ℕ) → ℕ → Option ℕ → ℕ
  sum_on f zero next = 0
  sum_on f (suc bound) None = 0
  sum_on f (suc bound) (Some id) = f id + sum_on f bound (option_and_then (beside way) (get leaves id))

  pub sum_is : (f : ℕ → ℕ) (bound id : ℕ) (ids : List ℕ) → At id ids → length ids ≤ bound → sum_on f bound (first_or ids None) ≡ sum_by f ids
  unfolding sum_on
  sum_is f zero id [] at few = refl
  sum_is f zero id (x ∷ ids) at few = absurd (omega arith)
  sum_is f (suc bound) id [] at few = refl
  sum_is f (suc bound) id (x ∷ ids) at few = rw (link_is x ids (on_to id x ids at))
      (ap (λ n. f x + n) (sum_is f bound x ids (on_to id x ids at) (omega arith)) ∙ sym (sum_by-cons f x ids))

  -- how many links lead on
  pub hops_left : Option ℕ → ℕ
  hops_left next = sum_on (λ id. 1) (length leaves.slots) next

  -- a walk has passed leaves without entries, from this number on these leaves are left, and where it lands is still the same
  pub record Passed (start : List ℕ) (passed next : Option ℕ) : Type 0 where
    pub id : ℕ
    pub left : List ℕ
    pub at : At id left
    pub next_is : next ≡ first_or left None
    pub same : landing leaves None start ≡ landing leaves passed left

  -- it has passed leaves without entries, of which it has seen the last one, and sees the one ahead
  pub record Sees (start : List ℕ) (passed ahead : Option Beside) : Type 0 where
    pub behind : passed ≡ seen way leaves (number_of passed)
    pub looked : ahead ≡ seen way leaves (number_of ahead)
    pub now : Passed start (number_of passed) (number_of ahead)

  pub sees : (start : List ℕ) (passed : Option Beside) (next : Option ℕ) (ahead : Option Beside) → passed ≡ seen way leaves (number_of passed) → ahead ≡ seen way leaves next
      → Passed start (number_of passed) next → Sees start passed ahead
  sees start passed next ahead behind looked now = record { behind = behind; looked = rw (looked, number_seen next) refl; now = rw (looked, number_seen next) now }

  -- before the first link no leaf is passed
  pub none_passed : (front : List ℕ) (id : ℕ) (back : List ℕ) → IsChain leaves (front ++ id ∷ back) → (leaf : LeafOf K V LEN) → get leaves id ≡ Some leaf
      → Passed (leaves_on way front back) None (beside way leaf)
  none_passed front id back chain leaf here =
      let at : At id (leaves_on way front back) = record { front = front; back = back; chain = chain; on = refl } in
      record { id = id; left = leaves_on way front back; at = at; next_is = beside_is id _ at leaf here; same = refl }

  module _ (start : List ℕ) (passed : Option ℕ) (id : ℕ) (now : Passed start passed (Some id)) where
    opens : (rest : List ℕ) × (now.left ≡ id ∷ rest) × At id rest
    opens = let first = first_is now.left id now.next_is in (first.0, first.1, on_to now.id id first.0 (rw first.1 at now.at))

    -- the leaf that is next is in use
    pub next_there : IsSome (get leaves id)
    next_there = used id opens.0 opens.2

  module _ (start : List ℕ) (passed : Option Beside) (next : Beside) (now : Sees start passed (Some next)) where
    to : (rest : List ℕ) × (now.now.left ≡ next.id ∷ rest) × At next.id rest
    to = opens start (number_of passed) next.id now.now

    whole : next ≡ seen_at way leaves next.id
    whole = (seen_whole next (Some next.id) now.looked).1

    beyond : next.beyond ≡ first_or to.0 None
    beyond = ap (λ n. n.beyond) whole ∙ link_is next.id to.0 to.2

    -- after one link they are fewer
    pub hops_fall : hops_left next.beyond < hops_left (Some next.id)
    unfolding hops_left
    hops_fall =
        let all = sum_is (λ id. 1) (length leaves.slots) now.now.id (next.id ∷ to.0) (rw to.1 at now.now.at) (few now.now.id _ (rw to.1 at now.now.at)) in
        rw beyond (omega (arith, all, sum_by-cons (λ (n : ℕ). 1) next.id to.0, sum_is (λ id. 1) (length leaves.slots) next.id to.0 to.2 (few next.id to.0 to.2)))

    -- it lands in the leaf that it sees if that has an entry
    pub lands : 0 < next.len → Some next ≡ seen way leaves (landing leaves None start)
    lands filled =
        let some : (length (leaf_entries leaves next.id) == 0) ≡ false = grind (arith, nat_tests, ap (λ n. n.len) whole) in
        let there : landing leaves None start ≡ Some next.id = now.now.same ∙ rw (to.1, some) refl in
        rw there now.looked

    -- else it passes the leaf
    pub passes : next.len ≤ 0 → Passed start (Some next.id) next.beyond
    passes empty =
        let none : (length (leaf_entries leaves next.id) == 0) ≡ true = grind (arith, nat_tests, ap (λ n. n.len) whole) in
        record {
          id = next.id;
          left = to.0;
          at = to.2;
          next_is = beyond;
          same = now.now.same ∙ ap (landing leaves (number_of passed)) to.1 ∙ rw none refl;
        }

    -- the leaf beyond it is in use
    pub beyond_there : next.len ≤ 0 → (id : ℕ) → next.beyond ≡ Some id → IsSome (get leaves id)
    beyond_there empty id is = next_there start (Some next.id) id (rw is at (passes empty))

  -- at the end it lands in the last leaf
  pub lands_last : (start : List ℕ) (passed ahead : Option Beside) → Sees start passed ahead → ahead ≡ None → passed ≡ seen way leaves (landing leaves None start)
  lands_last start passed ahead sees none = rw (by_left sees.now.left (ap number_of (sym none) ∙ sees.now.next_is) sees.now.same) at sees.behind
    where
      by_left : (ids : List ℕ) → None ≡ first_or ids None → landing leaves None start ≡ landing leaves (number_of passed) ids → number_of passed ≡ landing leaves None start
      by_left [] is same = sym same
      by_left (x ∷ ids) is same = absurd (cc)
