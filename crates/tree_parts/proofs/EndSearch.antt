-- A search through children in turn, either way, for the first leaf with an entry.
use Rattle.tree_parts.proofs.Common.{◌≡◌, ℕ, ◌<◌, Bool, true, false, List, [], ◌∷◌, ◌++◌, length, reverse, Option, Some, None, is_some, refl, ap, ◌∙◌, append_assoc, IsTrue, arith, flat_map, append-nil}
use Rattle.tree_parts.proofs.Common.{AllByRecursion, reverse_onto, flat_map-append, along, Back, FindsFirst, IsFirstOn, LeafOf, On, Slab, Way, entries_of, leaf_entries}

-- what comes first on the way, and then the rest, in the order of the keys
abbrev joined : Way → List ℕ → List ℕ → List ℕ
joined On first rest = first ++ rest
joined Back first rest = rest ++ first

leaves_joined : (f : ℕ → List ℕ) (way : Way) (child : ℕ) (rest : List ℕ) → flat_map f (along way (child ∷ rest)) ≡ joined way (f child) (flat_map f (along way rest))
leaves_joined f On child rest = refl
leaves_joined f Back child rest = ap (flat_map f) (reverse_onto rest child []) ∙ flat_map-append f (reverse rest) (child ∷ []) ∙ ap (λ ids. flat_map f (reverse rest) ++ ids) (append-nil (f child))

module _ {K V : Type 0} {LEN : ℕ} (leaves : Slab (LeafOf K V LEN)) where
  none_in_both : (xs ys : List ℕ) → entries_of leaves xs ≡ [] → entries_of leaves ys ≡ [] → entries_of leaves (xs ++ ys) ≡ []
  none_in_both xs ys first second = rw (flat_map-append (leaf_entries leaves) xs ys, first, second) refl

  -- what is the first of these stays it with more behind
  more_behind : (way : Way) (first rest : List ℕ) (leaf : ℕ) → IsFirstOn way leaves first leaf → IsFirstOn way leaves (joined way first rest) leaf
  more_behind On first rest leaf is = record { front = is.front; back = is.back ++ rest; parts = rw is.parts (simp append_assoc); none_passed = is.none_passed; entry = is.entry }
  more_behind Back first rest leaf is = record { front = rest ++ is.front; back = is.back; parts = rw is.parts (simp append_assoc); none_passed = is.none_passed; entry = is.entry }

  -- and with leaves without an entry before
  none_before : (way : Way) (first rest : List ℕ) → entries_of leaves first ≡ [] → (result : Option ℕ) → FindsFirst way leaves rest result → FindsFirst way leaves (joined way first rest) result
  none_before On first rest none None found = none_in_both first rest none found
  none_before Back first rest none None found = none_in_both rest first found none
  none_before On first rest none (Some leaf) is = record { front = first ++ is.front; back = is.back; parts = rw is.parts (simp append_assoc); none_passed = none_in_both first is.front none is.none_passed; entry = is.entry }
  none_before Back first rest none (Some leaf) is = record { front = is.front; back = is.back ++ first; parts = rw is.parts (simp append_assoc); none_passed = none_in_both is.back first is.none_passed none; entry = is.entry }

  -- a leaf alone
  pub alone_without : (leaf : ℕ) → leaf_entries leaves leaf ≡ [] → entries_of leaves (leaf ∷ []) ≡ []
  alone_without leaf none = rw (append-nil, none) refl

  pub alone_with : (leaf : ℕ) (empty : Bool) → (leaf_entries leaves leaf ≡ [] → IsTrue empty) → empty ≡ false → (way : Way) → IsFirstOn way leaves (leaf ∷ []) leaf
  alone_with leaf empty test some way = record { front = []; back = []; parts = refl; none_passed = grind arith; entry = filled (leaf_entries leaves leaf) test }
    where
      filled : (entries : List (K × V)) → (entries ≡ [] → IsTrue empty) → 0 < length entries
      filled [] test = absurd (let none : empty ≡ true = test refl in cc)
      filled (x ∷ entries) test = omega arith

  module _ (f : ℕ → List ℕ) (way : Way) (all : List ℕ) where
    -- what is found under the children that are left is found among all leaves, and this holds of each of them
    pub record IsSought (Holds : ℕ → Type 0) (left : List ℕ) : Type 0 where
      pub each : AllByRecursion Holds left
      pub suffices : (result : Option ℕ) → FindsFirst way leaves (flat_map f (along way left)) result → FindsFirst way leaves all result

    module _ {Holds : ℕ → Type 0} (left : List ℕ) (sought : IsSought Holds left) where
      pub nowhere : left ≡ [] → FindsFirst way leaves all None
      nowhere is = sought.suffices None (rw is (elim way as (λ way. entries_of leaves (flat_map f (along way [])) ≡ []) [ On ↦ refl | Back ↦ refl ]))

      module _ (child : ℕ) (rest : List ℕ) (is : left ≡ child ∷ rest) where
        module _ (result : Option ℕ) (found : FindsFirst way leaves (f child) result) where
          pub stops : is_some result ≡ true → FindsFirst way leaves all result
          stops some = sought.suffices result (rw (is, leaves_joined f way child rest) (by_result result found some))
            where
              by_result : (result : Option ℕ) → FindsFirst way leaves (f child) result → is_some result ≡ true → FindsFirst way leaves (joined way (f child) (flat_map f (along way rest))) result
              by_result None found some = absurd (cc)
              by_result (Some leaf) found some = more_behind way (f child) _ leaf found

          pub goes_on : is_some result ≡ false → IsSought Holds rest
          goes_on none = record {
            each = (rw is at sought.each).1;
            suffices = λ later later_found. sought.suffices later (rw (is, leaves_joined f way child rest) (none_before way (f child) _ (by_result result found none) later later_found));
          }
            where
              by_result : (result : Option ℕ) → FindsFirst way leaves (f child) result → is_some result ≡ false → entries_of leaves (f child) ≡ []
              by_result None found none = found
              by_result (Some leaf) found none = absurd (cc)
