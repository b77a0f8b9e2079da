-- What is left of a walk on its way: a step or a jump takes the first of it, and its count falls.
use Rattle.std.proofs.Common.{◌≡◌, ℕ, ◌+◌, ◌<◌, List, [], ◌∷◌, ◌++◌, length, Option, Some, None, option_and_then, option_map, sum_by, IfSome, refl, sym, ap, ◌∙◌, arith, length-append, append-nil, Bor}
use Rattle.tree_model.proofs.Common.{reverse-append, flat_map-append, lent_entry, along}
use Rattle.tree_leaf.proofs.ChainCommon.{AreLeft, AreOnTheWay, Back, HasTaken, IsChain, Jumps, LeafOf, LeafWalk, On, Slab, StandsIn, Steps, Takes, Way, ahead, beside, beyond, entries_of, first_of, get, here, jumped, landing, leaf_entries, leaves_on, left_of, standing, stood_on, sum_by-cons, whole_way}
use Rattle.tree_leaf.proofs.Along.{all_ahead, first_along, first_at, first_stood, none_ahead, step_takes}
use Rattle.tree_leaf.proofs.Jumps.{first_is, landed, lands_in, lands_nowhere, met, met_beyond, onward}
use Rattle.std.specs.Map.Iter.{TakesFirst}
use Rattle.tree_leaf.proofs.Ways.{At, few, link_is, sum_is, sum_on}

abbrev pub IsInChain : {K V : Type 0} {LEN : ℕ} → LeafWalk K V LEN → Type 0
IsInChain walk = (front back : List ℕ) × IsChain walk.leaves (front ++ walk.leaf ∷ back)

-- from one leaf of a chain to another, a walk still stands in the chain
abbrev pub stands_on : {K V : Type 0} {LEN : ℕ} {leaves : Slab (LeafOf K V LEN)} {chain : List ℕ} {old new : LeafWalk K V LEN} (from : StandsIn leaves chain old)
    → StandsIn old.leaves (from.front ++ old.leaf ∷ from.back) new → StandsIn leaves chain new
stands_on from to = record { same = to.same ∙ from.same; front = to.front; back = to.back; stands = to.stands ∙ from.stands }

-- what is lent is taken
pub takes_lent : {K V : Type 0} (left : List (K × V)) (r : Option (Bor K × Bor V)) (taken : Option (K × V)) (rest : List (K × V)) → option_map lent_entry r ≡ taken
    → TakesFirst (λ x. x) left taken rest → TakesFirst lent_entry left r rest
takes_lent left None taken rest is takes = rw (← is) at takes
takes_lent left (Some x) taken rest is takes = rw (← is) at takes

module _ {K V : Type 0} {LEN : ℕ} (way : Way) where
  left_met : (walk : LeafWalk K V LEN) (front back : List ℕ) → left_of way walk front back ≡ ahead way (here walk) walk.at ++ met walk.leaves way (leaves_on way front back)
  left_met walk front back = ap (λ entries. ahead way (here walk) walk.at ++ entries) (met_beyond walk.leaves way front back)

  -- a step in the leaf
  pub took : (old new : LeafWalk K V LEN) (result : Option (Bor K × Bor V)) → (result ≡ None → ⊥) → Steps way old result new → Takes way old result new
  took old new None some steps = absurd (some refl)
  took old new (Some entry) some steps = λ front back chain. record {
    stand = record { same = rw steps.0 refl; front = front; back = back; stands = rw steps.0 refl };
    takes = rw steps.0 (ap (λ entries. entries ++ along way (entries_of old.leaves (beyond way front back))) (step_takes way (here old) old.at new.at (lent_entry entry) steps.1));
    on = ap stood_on (steps.0 ∙ ap (standing old.leaves old.leaf) steps.1.2) ∙ steps.1.1;
  }

  -- a jump over the leaves on the way, from a place with no entry ahead in its leaf
  module _ (walk new : LeafWalk K V LEN) (front back : List ℕ) where
    stood_taken : (result : Option (Bor K × Bor V)) (found stood : Option (K × V)) → option_map lent_entry result ≡ found → ((x : K × V) → found ≡ Some x → stood ≡ Some x)
        → IfSome result (λ entry. stood ≡ Some (lent_entry entry))
    stood_taken None found stood is same = tt
    stood_taken (Some entry) found stood is same = same (lent_entry entry) (sym is)

    jump_takes : (result : Option (Bor K × Bor V)) → ahead way (here walk) walk.at ≡ [] → new ≡ jumped way walk (landing walk.leaves None (leaves_on way front back))
        → option_map lent_entry result ≡ first_of (met walk.leaves way (leaves_on way front back))
        → HasTaken way walk.leaves (front ++ walk.leaf ∷ back) (met walk.leaves way (leaves_on way front back)) result new
    jump_takes result none is first = by_landing (landing walk.leaves None (leaves_on way front back)) refl
      where
        by_landing : (at : Option ℕ) → landing walk.leaves None (leaves_on way front back) ≡ at
            → HasTaken way walk.leaves (front ++ walk.leaf ∷ back) (met walk.leaves way (leaves_on way front back)) result new
        by_landing None at =
            let gone = (lands_nowhere walk.leaves None (leaves_on way front back) at).1 in
            let told : option_map lent_entry result ≡ None = first ∙ rw gone refl in
            rw (is, at, gone) (record {
              stand = record { same = refl; front = front; back = back; stands = refl };
              takes = rw (left_met walk front back, none, gone) (takes_lent [] result None [] told (refl, refl));
              on = stood_taken result None _ told (λ x some. absurd (cc));
            })
        by_landing (Some id) at =
            let l = lands_in walk.leaves (leaves_on way front back) id at in
            let to = onward way front walk.leaf back l.front id l.back l.parts in
            let takes = landed walk.leaves way _ id l in
            let told = first ∙ sym (first_is _ _ _ takes) in
            rw (is, at) (record {
              stand = record { same = refl; front = to.front; back = to.back; stands = to.stands };
              takes = rw (left_met (standing walk.leaves id (first_at way (leaf_entries walk.leaves id))) to.front to.back, to.rest) (takes_lent _ result _ _ told takes);
              on = stood_taken result _ _ told (λ x some. first_stood way (leaf_entries walk.leaves id) ∙ some);
            })

  -- a step that finds none in the leaf, and then a jump
  pub next_then_jump : (old between new : LeafWalk K V LEN) (result : Option (Bor K × Bor V)) → Steps way old None between → Jumps way between result new → Takes way old result new
  next_then_jump old between new result steps jumps = λ front back chain.
      let same : between ≡ old = steps.0 ∙ ap (standing old.leaves old.leaf) steps.1.1 in
      let jump = (rw same at jumps) front back chain in
      let none = none_ahead way (here old) old.at between.at steps.1 in
      let first = jump.1 ∙ first_along way (entries_of old.leaves (beyond way front back)) ∙ ap first_of (met_beyond old.leaves way front back) in
      rw (left_met old front back, none) (jump_takes old new front back result none jump.0 first)

  -- how many entries are left of a walk, told by the links
  pub count_left : LeafWalk K V LEN → ℕ
  count_left walk =
      length (ahead way (here walk) walk.at)
      + sum_on walk.leaves way (λ id. length (along way (leaf_entries walk.leaves id))) (length walk.leaves.slots)
      (option_and_then (beside way) (get walk.leaves walk.leaf))

  length-met : (leaves : Slab (LeafOf K V LEN)) (ids : List ℕ) → sum_by (λ id. length (along way (leaf_entries leaves id))) ids ≡ length (met leaves way ids)
  length-met leaves [] = refl
  length-met leaves (id ∷ ids) = omega (
    arith,
    sum_by-cons (λ n. length (along way (leaf_entries leaves n))) id ids,
    length-append (along way (leaf_entries leaves id)) (met leaves way ids),
    length-met leaves ids,
  )

  count_is : (walk : LeafWalk K V LEN) (front back : List ℕ) → IsChain walk.leaves (front ++ walk.leaf ∷ back) → count_left walk ≡ length (left_of way walk front back)
  unfolding count_left
  count_is walk front back chain =
      let at : At walk.leaves way walk.leaf (leaves_on way front back) = record { front = front; back = back; chain = chain; on = refl } in
      let sum = sum_is walk.leaves way (λ id. length (along way (leaf_entries walk.leaves id))) (length walk.leaves.slots) walk.leaf
      (leaves_on way front back) at (few walk.leaves way walk.leaf _ at) in
      rw (link_is walk.leaves way walk.leaf _ at, left_met walk front back)
      (omega (
        arith,
        sum,
        length-met walk.leaves (leaves_on way front back),
        length-append (ahead way (here walk) walk.at) (met walk.leaves way (leaves_on way front back)),
      ))

  -- an entry that is taken makes them fewer
  pub count_falls : (old new : LeafWalk K V LEN) (entry : Bor K × Bor V) (front back : List ℕ) → IsChain old.leaves (front ++ old.leaf ∷ back) → Takes way old (Some entry) new → count_left new < count_left old
  count_falls old new entry front back chain takes =
      let taken = takes front back chain in
      let to = taken.stand in
      omega (arith, count_is old front back chain, count_is new to.front to.back (rw (to.same, to.stands) chain), ap length taken.takes)

  module _ (old new : LeafWalk K V LEN) where
    -- it stays in its chain
    pub chain_on : (result : Option (Bor K × Bor V)) → Takes way old result new → IsInChain old → IsInChain new
    chain_on result takes given = let to = (takes given.0 given.1 given.2).stand in (to.front, to.back, rw (to.same, to.stands) given.2)

    -- what was left is what is taken and what is left then
    pub left_then : (entry : Bor K × Bor V) (entries : List (Bor K × Bor V)) → Takes way old (Some entry) new → AreLeft way new entries
        → AreLeft way old (entry ∷ entries)
    left_then entry entries takes left = λ front back chain.
        let taken = takes front back chain in
        let to = taken.stand in
        ap (λ rest. lent_entry entry ∷ rest) (left to.front to.back (rw (to.same, to.stands) chain)) ∙ sym taken.takes

    pub none_then : (result : Option (Bor K × Bor V)) → result ≡ None → Takes way old result new → AreLeft way old []
    none_then None none takes = λ front back chain. sym (takes front back chain).takes.0
    none_then (Some entry) none takes = absurd (cc)

module _ {K V : Type 0} {LEN : ℕ} (leaves : Slab (LeafOf K V LEN)) (id : ℕ) where
  -- of an unopened walk the whole way is left
  fresh_left : (way : Way) (front back : List ℕ) → left_of way (standing leaves id None) front back ≡ whole_way way leaves front id back
  fresh_left On front back = refl
  fresh_left Back front back =
      let last : entries_of leaves (front ++ id ∷ []) ≡ entries_of leaves front ++ leaf_entries leaves id =
      flat_map-append (leaf_entries leaves) front (id ∷ []) ∙ rw append-nil refl in
      rw (last, reverse-append, all_ahead Back (leaf_entries leaves id)) refl

  pub fresh_gives : (way : Way) (walk : LeafWalk K V LEN) (entries : List (Bor K × Bor V)) → walk ≡ standing leaves id None → AreLeft way walk entries → AreOnTheWay way leaves id entries
  fresh_gives way walk entries fresh are_left = λ front back chain. (rw fresh at are_left) front back chain ∙ fresh_left way front back
