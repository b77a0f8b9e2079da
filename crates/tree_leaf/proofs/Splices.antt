-- Two leaves that become neighbours.
use Rattle.tree_leaf.proofs.Common.{◌≡◌, ◌≢◌, ℕ, ◌+◌, ◌≤◌, List, [], ◌∷◌, ◌++◌, Option, Some, None, IsSome, refl, ◌∙◌, arith, cases_eq, Slab, get, with_value, Updates-with_value, ◌⊎◌}
use Rattle.tree_leaf.proofs.Common.{LeafOf, times, uses, first_or, last_or, AreLinked, IsChain, SameArray, ChangesAt}
use Rattle.tree_leaf.proofs.Counts.{times-append, times-cons, one_here, uses_le_one}
use Rattle.tree_leaf.proofs.Chains.{last_within, last_inside, first_inside, linked_left, linked_right, linked_join, linked_kept, same_array_uses, same_array_trans, same_array_used}

cases_at : (at : Option ℕ) (n : ℕ) → (at ≡ Some n) ⊎ (at ≢ Some n)
cases_at at n = grind (arith, cases_eq)

-- one value is changed, through a `&mut` to it
pub changed : {T : Type 0} (arena : Slab T) (at : Option ℕ) (id : ℕ) (value : T) (change : T → T) → at ≡ Some id → get arena id ≡ Some value → ChangesAt arena (with_value arena id (change value)) at change
changed {T} arena at id value change is here =
    let updates = Updates-with_value arena id (change value) (rw here refl) in
    record {
      here = λ n other at_n there. grind (arith, updates.changed, at_n, there, here, is);
      others = λ n not_at. updates.others n (λ same. not_at (rw same is));
    }

module _ {K V : Type 0} {LEN : ℕ} where
  -- a change of links keeps each array
  pub array_kept : (old new : Slab (LeafOf K V LEN)) (at : Option ℕ) (change : LeafOf K V LEN → LeafOf K V LEN) → ChangesAt old new at change → ((leaf : LeafOf K V LEN) → (change leaf).array ≡ leaf.array)
      → ((n : ℕ) → at ≡ Some n → IsSome (get old n)) → (n : ℕ) → SameArray (get old n) (get new n)
  array_kept old new at change changes keeps used n = by_slot (get old n) refl
    where
      by_slot : (slot : Option (LeafOf K V LEN)) → get old n ≡ slot → SameArray slot (get new n)
      by_slot None e = changes.others n (λ is. cc (used n is, e)) ∙ e
      by_slot (Some leaf) e = grind (arith, changes.here n leaf, changes.others n, keeps leaf, e, cases_at at n)

  module _ (old between new : Slab (LeafOf K V LEN)) (left right : Option ℕ)
      (next : ChangesAt old between left (λ leaf. record leaf { next = right })) (prev : ChangesAt between new right (λ leaf. record leaf { prev = left })) where
    -- any other leaf stays as it was
    pub untouched_leaf : (n : ℕ) → left ≢ Some n → right ≢ Some n → get new n ≡ get old n
    untouched_leaf n not_left not_right = prev.others n not_right ∙ next.others n not_left

    -- leaves that end in the left one lead to the right one
    front_spliced : (before : Option ℕ) (xs : List ℕ) (after : Option ℕ) → last_or before xs ≡ left → ((n : ℕ) → times n xs ≤ 1) → ((n : ℕ) → 1 ≤ times n xs → right ≢ Some n)
        → AreLinked old before xs after → AreLinked new before xs right
    front_spliced before [] after ends once apart linked = tt
    front_spliced before (x ∷ []) after ends once apart linked = grind (arith, prev.others x, next.here x, apart x, times-cons x x [], one_here x x refl)
    front_spliced before (x ∷ (y ∷ rest)) after ends once apart linked =
        let others = front_spliced (Some x) (y ∷ rest) after ends (λ n. omega (arith, once n, times-cons n x (y ∷ rest))) (λ n inside. apart n (omega (arith, times-cons n x (y ∷ rest)))) linked.1 in
        grind (arith, untouched_leaf x, last_within y rest x, once x, apart x, times-cons x x (y ∷ rest), one_here x x refl, others)

    -- leaves that begin with the right one follow the left one
    back_spliced : (before : Option ℕ) (ys : List ℕ) (after : Option ℕ) → first_or ys after ≡ right → ((n : ℕ) → times n ys ≤ 1) → ((n : ℕ) → 1 ≤ times n ys → left ≢ Some n)
        → AreLinked old before ys after → AreLinked new left ys after
    back_spliced before [] after begins once apart linked = tt
    back_spliced before (y ∷ rest) after begins once apart linked = (
      grind (arith, prev.here y, next.others y, apart y, times-cons y y rest, one_here y y refl),
      linked_kept old new (Some y) rest after (λ n inside. grind (arith, untouched_leaf n, apart n, times-cons n y rest, once n, one_here n y)) linked.1,
    )

    -- the two become one run, if no number stands in it twice
    pub run_spliced : (before : Option ℕ) (xs ys : List ℕ) (after : Option ℕ) → last_or before xs ≡ left → first_or ys after ≡ right
        → ((n : ℕ) → left ≡ Some n → 1 ≤ times n xs) → ((n : ℕ) → right ≡ Some n → 1 ≤ times n ys) → ((n : ℕ) → times n xs + times n ys ≤ 1)
        → (behind ahead : Option ℕ) → AreLinked old before xs behind → AreLinked old ahead ys after → AreLinked new before (xs ++ ys) after
    run_spliced before xs ys after ends begins in_left in_right once behind ahead front back = linked_join new before xs ys after
        (rw begins (front_spliced before xs behind ends (λ n. omega (arith, once n)) (λ n inside is. omega (arith, inside, in_right n is, once n)) front))
        (rw ends (back_spliced ahead ys after begins (λ n. omega (arith, once n)) (λ n inside is. omega (arith, inside, in_left n is, once n)) back))

    module _ (left_used : (n : ℕ) → left ≡ Some n → IsSome (get old n)) (right_used : (n : ℕ) → right ≡ Some n → IsSome (get old n)) where
      pub arrays_kept : (n : ℕ) → SameArray (get old n) (get new n)
      arrays_kept n = grind (arith, array_kept, same_array_used, same_array_trans)

      module _ (front middle back : List ℕ) (ends : last_or None front ≡ left) (begins : first_or back None ≡ right) (chain : IsChain old (front ++ (middle ++ back))) where
        all_counted : (n : ℕ) → times n front + (times n middle + times n back) ≤ uses old n
        all_counted n = omega (arith, times-append n front (middle ++ back), times-append n middle back, chain.once n)

        pub chain_spliced : IsChain new (front ++ back)
        chain_spliced = record {
          once = λ n. omega (arith, all_counted n, times-append n front back, same_array_uses old new n (arrays_kept n));
          linked = run_spliced None front back None ends begins (λ n is. last_inside front n (ends ∙ is)) (λ n is. first_inside back n (begins ∙ is)) (λ n. omega (arith, all_counted n, uses_le_one old n)) _ _
              (linked_left old None front (middle ++ back) None chain.linked) (linked_right old (last_or None front) middle back None (linked_right old None front (middle ++ back) None chain.linked));
        }
