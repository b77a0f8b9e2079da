-- How a loop fills places with what a walk gives.
use Rattle.std.proofs.Common.{◌≡◌, ℕ, suc, ◌+◌, ◌<◌, ◌≤◌, List, [], ◌∷◌, ◌++◌, length, map, min, take, drop, refl, sym, ap, ◌∙◌, subst, append_assoc, arith, length-append, length-drop}
use Rattle.tree_model.proofs.Common.{map-append}
use Rattle.std.proofs.lemmas.List.{length-map}
use Rattle.std.proofs.Math.ListN.{get_or, set}
use Rattle.std.proofs.Math.Seq.{drop-cons, set-append_seam, take-append_seam}
use Rattle.tree_index_c.specs.Pairs.{Fills, FillsArrays, key_of, value_of}

module _ {P X : Type 0} (show : P → X) (all : List P) (before : List X) where
  -- The first `at` places are filled, and these are left of all.
  pub record Filling (at : ℕ) (now : List X) (left : List P) : Type 0 where
    pub given : List P
    pub parts : given ++ left ≡ all
    pub counted : length given ≡ at
    pub places : now ≡ map show given ++ drop at before
    pub within : at ≤ length before

  pub filling_none : Filling 0 before all
  filling_none = record { given = []; parts = refl; counted = refl; places = refl; within = omega arith }

  module _ (at : ℕ) (now : List X) where
    seam : (given : List P) (p : P) → length given ≡ at → at < length before → set (map show given ++ drop at before) at (show p) ≡ map show (given ++ p ∷ []) ++ drop (at + 1) before
    seam given p counted lt =
        let long : length (map show given) ≡ at = length-map given show ∙ counted in
        let next : suc at ≡ at + 1 = omega arith in
        rw (
          drop-cons before at (show p) lt,
          ap (λ n. set (map show given ++ get_or before at (show p) ∷ drop (suc at) before) n (show p)) (sym long) ∙ set-append_seam (map show given) (get_or before at (show p)) (drop (suc at) before) (show p),
          map-append show given (p ∷ []),
          append_assoc (map show given) (show p ∷ []) (drop (at + 1) before),
        ) (ap (λ n. map show given ++ show p ∷ drop n before) next)

    -- there are as many places as before
    pub all_places : {left : List P} → Filling at now left → length now ≡ length before
    all_places was =
        ap length was.places ∙ length-append (map show was.given) (drop at before)
        ∙ omega (arith, length-map was.given show, was.counted, length-drop at before, was.within)

    pub filling_more : (p : P) (rest : List P) → Filling at now (p ∷ rest) → at < length now → Filling (at + 1) (set now at (show p)) rest
    filling_more p rest was lt =
        let as_long : length now ≡ length before = all_places was in
        record {
          given = was.given ++ p ∷ [];
          parts = append_assoc was.given (p ∷ []) rest ∙ was.parts;
          counted = length-append was.given (p ∷ []) ∙ ap (λ n. n + 1) was.counted;
          places = ap (λ xs. set xs at (show p)) was.places ∙ seam was.given p was.counted (omega (arith, lt, as_long));
          within = omega (arith, lt, as_long);
        }

    module _ (left : List P) (was : Filling at now left) where
      in_all : length all ≡ at + length left
      in_all = ap length (sym was.parts) ∙ length-append was.given left ∙ ap (λ n. n + length left) was.counted

      first : was.given ≡ take at all
      first = sym (take-append_seam was.given left) ∙ ap (λ n. take n (was.given ++ left)) was.counted ∙ ap (take at) was.parts

      filled : now ≡ map show (take at all) ++ drop at before
      filled = was.places ∙ ap (λ xs. map show xs ++ drop at before) first

      pub fills_places : length now ≤ at → Fills show all before (length now) now
      fills_places full =
          let whole : at ≡ length now = omega (arith, full, all_places was, was.within) in
          record { count = omega (arith, full, all_places was, was.within, in_all); filled = filled ∙ ap (λ n. map show (take n all) ++ drop n before) whole }

      pub fills_all : left ≡ [] → Fills show all before at now
      fills_all none = record { count = omega (arith, ap length none, was.within, in_all); filled = filled }

    -- where there is room for all, the next one has its place
    module _ (p : P) (left rest : List P) (is : left ≡ p ∷ rest) (was : Filling at now left) (room : length all ≤ length before) where
      pub has_place : at < length now
      has_place = omega (arith, in_all left was, ap length is, all_places was, room)

      pub filling_next : (x : X) → x ≡ show p → Filling (at + 1) (set now at x) rest
      filling_next x shown = subst (λ (y : X). Filling (at + 1) (set now at y) rest) (sym shown) (filling_more p rest (subst (λ (l : List P). Filling at now l) is was) has_place)

-- An array of keys and one of values, whose first `at` places are filled from one walk.
module _ (all : List (ℕ × ℕ)) (keys values keys_now values_now : List ℕ) (at : ℕ) (left : List (ℕ × ℕ))
    (of_keys : Filling key_of all keys at keys_now left) (of_values : Filling value_of all values at values_now left) where
  both_filled : at ≡ min (min (length keys) (length values)) (length all) → FillsArrays all keys values at keys_now values_now
  both_filled count = record { count = count; keys = filled key_of all keys at keys_now left of_keys; values = filled value_of all values at values_now left of_values }

  pub both_full : (room : ℕ) → room ≡ min (length keys) (length values) → at ≡ room → FillsArrays all keys values room keys_now values_now
  both_full room is full = subst (λ (n : ℕ). FillsArrays all keys values n keys_now values_now) full
      (both_filled (omega (arith, is, full, of_keys.within, of_values.within, in_all key_of all keys at keys_now left of_keys)))

  pub both_all : left ≡ [] → FillsArrays all keys values at keys_now values_now
  both_all none = both_filled (omega (arith, ap length none, of_keys.within, of_values.within, in_all key_of all keys at keys_now left of_keys))
