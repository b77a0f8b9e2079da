-- Subsets, and sets with nothing in common, from what one of two has alone and what both have.
use mathlib.Core.Bool.{beq}
use Rattle.std.proofs.Common.{◌≡◌, Bool, true, false, not, ◌&&◌, ◌||◌, List, [], ◌∷◌, Option, Some, None, Bor, is_some, refl, sym, ap, ◌∙◌, inl, inr, is_eq, Ordering}
use Rattle.tree_model.proofs.Common.{IsTotalOrder, AllByRecursion, tied_itself}
use Rattle.tree_array.proofs.Common.{equal_from_test}
use Rattle.std.proofs.lemmas.Bool.{cases_Bool}
use Rattle.std.specs.Iterator.{YieldsFirstRef}
use Rattle.std.specs.Prelude.{◌↔◌, IsTrue}
use Rattle.tree_set.specs.Merges.{AreDisjoint, IsSubset, difference, intersection}
use Rattle.tree_set.specs.Sets.{has}
use Rattle.tree_set.proofs.Merged.{alone_elements, common_elements, same_has}

true_from_not : (b : Bool) → not b ≡ false → b ≡ true
true_from_not true h = refl
true_from_not false h = absurd (cc)

-- two answers that are the same, or not
pub same_answer : (a b : Bool) → not (beq a b) ≡ false → a ≡ b
same_answer true true h = refl
same_answer true false h = absurd (cc)
same_answer false true h = absurd (cc)
same_answer false false h = refl

pub other_answer : (a b : Bool) → not (beq a b) ≡ true → (a ≡ b) → ⊥
other_answer true true h same = cc
other_answer true false h same = cc
other_answer false true h same = cc
other_answer false false h same = cc

-- nothing was given exactly if nothing was left
pub none_given : {K : Type 0} (s t : List K) (r : Option (Bor K)) (told : Bool) → YieldsFirstRef (λ l. l) s r t → is_some r ≡ not told → IsTrue told ↔ (s ≡ [])
none_given s t None told gave says = ((λ yes. gave.0), (λ none. true_from_not told (sym says)))
none_given s t (Some x) told gave says = ((λ yes. absurd (let no = rw yes at says in cc)), (λ none. absurd (let two = sym gave ∙ none in cc)))

module _ {K : Type 0} {cmp : K → K → Ordering} (o : IsTotalOrder cmp) where
  -- a list without an element is empty
  none_had : (l : List K) → ((k : K) → has cmp l k ≡ false) → l ≡ []
  none_had [] none = refl
  none_had (x ∷ xs) none = absurd (let no = rw (tied_itself o x) at (none x) in cc)

  module _ (xs ys : List K) where
    pub subset_alone : IsSubset cmp xs ys → difference cmp xs ys ≡ []
    subset_alone all = none_had (difference cmp xs ys) (λ k. alone_elements o xs ys k ∙ by_first k (has cmp xs k) refl)
      where
        by_first : (k : K) (b : Bool) → has cmp xs k ≡ b → (b && not (has cmp ys k)) ≡ false
        by_first k true here = ap not (all k here)
        by_first k false here = refl

    pub alone_subset : difference cmp xs ys ≡ [] → IsSubset cmp xs ys
    alone_subset none = λ k here.
        let no = sym (alone_elements o xs ys k) ∙ ap (λ (l : List K). has cmp l k) none in
        true_from_not (has cmp ys k) (rw here at no)

    pub disjoint_common : AreDisjoint cmp xs ys → intersection cmp xs ys ≡ []
    disjoint_common all = none_had (intersection cmp xs ys) (λ k. common_elements o xs ys k ∙ by_first k (has cmp xs k) refl)
      where
        by_first : (k : K) (b : Bool) → has cmp xs k ≡ b → (b && has cmp ys k) ≡ false
        by_first k true here = all k here
        by_first k false here = refl

    pub common_disjoint : intersection cmp xs ys ≡ [] → AreDisjoint cmp xs ys
    common_disjoint none = λ k here.
        let no = sym (common_elements o xs ys k) ∙ ap (λ (l : List K). has cmp l k) none in
        rw here at no

  pub disjoint_back : (xs ys : List K) → AreDisjoint cmp xs ys → AreDisjoint cmp ys xs
  disjoint_back xs ys all = λ k there. elim (cases_Bool (has cmp xs k)) [
    | inl here ↦ absurd (let no = all k here in cc)
    | inr none ↦ none
  ]

  -- each element of the first list is found in the second, or none is
  module _ (ys : List K) (found : Bool) where
    pub all_had : (xs : List K) → AllByRecursion (λ x. has cmp ys x ≡ found) xs → (k : K) → has cmp xs k ≡ true → has cmp ys k ≡ found
    all_had [] all k here = absurd (cc)
    all_had (x ∷ xs) all k here = by_test (is_eq (cmp x k)) refl here (λ h. all_had xs all.1 k h)
      where
        by_test : (b : Bool) → is_eq (cmp x k) ≡ b → (b || has cmp xs k) ≡ true → (has cmp xs k ≡ true → has cmp ys k ≡ found) → has cmp ys k ≡ found
        by_test true same h later = sym (same_has o x k (equal_from_test (cmp x k) same) ys) ∙ all.0
        by_test false same h later = later h

    or_true : (b c : Bool) → c ≡ true → (b || c) ≡ true
    or_true true c h = refl
    or_true false c h = h

    pub each_had : (xs : List K) → ((k : K) → has cmp xs k ≡ true → has cmp ys k ≡ found) → AllByRecursion (λ x. has cmp ys x ≡ found) xs
    each_had [] all = tt
    each_had (x ∷ xs) all = (all x (rw (tied_itself o x) refl), each_had xs (λ k here. all k (or_true (is_eq (cmp x k)) (has cmp xs k) here)))
