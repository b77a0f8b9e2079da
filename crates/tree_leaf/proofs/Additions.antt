-- A new leaf that comes into a chain before another one: it is added, then spliced to the leaf before and to the one behind.
use Rattle.tree_leaf.proofs.Common.{◌≡◌, ◌≢◌, ℕ, ◌+◌, ◌≤◌, ◌==◌, cond, List, [], ◌∷◌, ◌++◌, Some, None, IsSome, refl, ◌∙◌, append_assoc, arith, nat_tests, Slab, get, LeafOf, SlotsOf}
use Rattle.tree_leaf.proofs.Common.{times, uses, last_or, AreLinked, IsChain, SameArray, Gains, Splices, GainsBefore}
use Rattle.tree_leaf.proofs.Counts.{times-nil, times-append, times-cons, one_here, uses_le_one, uses_some, uses_none}
use Rattle.tree_leaf.proofs.Chains.{first_inside, last_inside, last_or-append, linked_left, linked_right, linked_kept, same_array_uses, same_array_trans, neighbours, counted}
use Rattle.tree_leaf.proofs.Splices.{run_spliced, untouched_leaf}

module _ {T : Type 0} (old new : Slab T) (id : ℕ) (value : T) (gains : Gains old new id value) where
  -- what was in use is so still, and the new number is
  pub still_used : (n : ℕ) → IsSome (get old n) → IsSome (get new n)
  still_used n used = grind (arith, gains.updates.changed, gains.updates.others n)

  pub new_used : (n : ℕ) → Some id ≡ Some n → IsSome (get new n)
  new_used n is = grind (arith, gains.updates.changed)

-- a new leaf without neighbours is a chain by itself
pub alone : {K V : Type 0} {LEN : ℕ} (old new : Slab (LeafOf K V LEN)) (id : ℕ) (leaf : LeafOf K V LEN) → Gains old new id leaf → leaf.prev ≡ None → leaf.next ≡ None → IsChain new (id ∷ [])
alone old new id leaf gains prev next = record {
  once = λ n. grind (arith, nat_tests, times-cons n id [], times-nil n, uses_some new id (rw gains.updates.changed refl));
  linked = rw gains.updates.changed ((prev, next), tt);
}

module _ {K V N : Type 0} {LEN : ℕ} (old added joined new : SlotsOf K V N LEN) (at id : ℕ) (leaf after : LeafOf K V LEN)
    (was : get old.leaves at ≡ Some after) (gains : Gains old.leaves added.leaves id leaf)
    (first : Splices added joined after.prev (Some id)) (second : Splices joined new (Some id) (Some at)) where
  used_not_id : (n : ℕ) → IsSome (get old.leaves n) → n ≡ id → ⊥
  used_not_id n used same = grind (arith, gains.was_free)

  -- a leaf that is neither the new one nor beside it stays as it was
  others : (n : ℕ) → n ≢ id → n ≢ at → after.prev ≢ Some n → get new.leaves n ≡ get old.leaves n
  others n not_id not_at not_prev =
      grind (arith, untouched_leaf _ _ _ _ _ second.next_changed second.prev_changed n, untouched_leaf _ _ _ _ _ first.next_changed first.prev_changed n, gains.updates.others n)

  kept : (n : ℕ) → n ≢ id → SameArray (get old.leaves n) (get new.leaves n)
  kept n not_id = rw (gains.updates.others n not_id) at (same_array_trans _ _ _ (first.kept n) (second.kept n))

  module _ (prev_used : (n : ℕ) → after.prev ≡ Some n → IsSome (get old.leaves n)) where
    prev_not_id : after.prev ≢ Some id
    prev_not_id is = used_not_id id (prev_used id is) refl

    here : get new.leaves id ≡ Some (record leaf { prev = after.prev; next = Some at })
    here =
        grind (arith, first.prev_changed.here id, first.next_changed.others id, prev_not_id, gains.updates.changed, second.prev_changed.others id, used_not_id at, was, second.next_changed.here id)

    uses_now : (n : ℕ) → uses new.leaves n ≡ uses old.leaves n + cond (id == n) 1 0
    uses_now n =
        grind (arith, nat_tests, same_array_uses old.leaves new.leaves n, kept n, uses_some new.leaves id, here, uses_none old.leaves id gains.was_free)

    module _ (front back : List ℕ) (chain : IsChain old.leaves (front ++ at ∷ back)) where
      prev_is : last_or None front ≡ after.prev
      prev_is = (neighbours old.leaves front at back chain after was).0

      -- no number stands twice in the chain with the new one
      once : (n : ℕ) → times n front + times n (id ∷ []) + times n (at ∷ back) ≤ uses new.leaves n
      once n = omega (arith, uses_now n, counted old.leaves front at back chain n, times-cons n id [], times-nil n)

      not_id : (n : ℕ) → 1 ≤ times n front + times n (at ∷ back) → n ≢ id
      not_id n inside same = omega (arith, once n, uses_le_one new.leaves n, times-cons n id [], one_here n id same)

      front_joined : AreLinked joined.leaves None (front ++ id ∷ []) leaf.next
      front_joined = run_spliced _ _ _ _ _ first.next_changed first.prev_changed None front (id ∷ []) leaf.next prev_is refl (λ n is. last_inside front n (prev_is ∙ is)) (λ n is. first_inside (id ∷ []) n is)
          (λ n. omega (arith, once n, uses_le_one new.leaves n)) (Some at) leaf.prev
          (linked_kept old.leaves added.leaves None front (Some at) (λ n inside. gains.updates.others n (not_id n (omega arith))) (linked_left old.leaves None front (at ∷ back) None chain.linked))
          (rw gains.updates.changed ((refl, refl), tt))

      back_joined : AreLinked joined.leaves after.prev (at ∷ back) None
      back_joined = linked_kept old.leaves joined.leaves after.prev (at ∷ back) None
          (λ n inside. grind (arith, untouched_leaf _ _ _ _ _ first.next_changed first.prev_changed n, once n, last_inside front n, prev_is, uses_le_one new.leaves n, not_id n, gains.updates.others n))
          (rw prev_is at (linked_right old.leaves None front (at ∷ back) None chain.linked))

      chained : IsChain new.leaves (front ++ id ∷ (at ∷ back))
      chained = record {
        once = λ n. omega (arith, once n, times-append n front (id ∷ (at ∷ back)), times-cons n id (at ∷ back), times-cons n id [], times-nil n);
        linked = rw append_assoc at (run_spliced _ _ _ _ _ second.next_changed second.prev_changed None (front ++ id ∷ []) (at ∷ back) None (last_or-append None front (id ∷ [])) refl
            (λ n is. omega (arith, times-append n front (id ∷ []), first_inside (id ∷ []) n is)) (λ n is. first_inside (at ∷ back) n is)
            (λ n. omega (arith, once n, times-append n front (id ∷ []), uses_le_one new.leaves n)) _ _ front_joined back_joined);
      }

    pub gains_before : added.nodes ≡ old.nodes → GainsBefore old new at id leaf
    gains_before nodes = record {
      nodes = second.nodes ∙ first.nodes ∙ nodes;
      was_free = gains.was_free;
      counted = omega (arith, gains.counted, first.room.counted, second.room.counted);
      room = λ more had. omega (arith, gains.room more had, first.room.counted, second.room.counted, first.room.capacity, second.room.capacity);
      after = after;
      was = was;
      here = here;
      kept = kept;
      others = others;
      chained = chained;
    }
