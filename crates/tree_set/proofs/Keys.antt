-- The keys of a list of pairs, and of its edits.
use Rattle.std.proofs.Common.{◌≡◌, ◌↔◌, IsTrue, Bool, true, false, cond, List, [], ◌∷◌, filter, find, Option, Some, None, Ok, Err, Bor, refl, sym, ap, ◌∙◌, inl, inr, MatchOption, is_some, not, ◌&&◌, ◌||◌, option_copied, option_map, is_lt, is_eq, is_gt, Ordering, Less}
use Rattle.tree_model.proofs.Common.{AllByRecursion, Bound, Unbounded, map-append}
use Rattle.tree_array.proofs.Common.{filter_all}
use Rattle.tree_leaf.proofs.ChainCommon.{first_of, last_of}
use Rattle.std.specs.List.{AllZip, list_any}
use Rattle.std.specs.Cmp.Lexicographic.{pointwise}
use Rattle.std.proofs.Math.Bool.{and-true}
use Rattle.std.proofs.lemmas.Bool.{cases_Bool}
use Rattle.std.proofs.lemmas.List.{length-map}
use Rattle.std.proofs.lemmas.Option.{slice_get-map}
use Rattle.tree_index.specs.Copies.{IsPairClone}
use Rattle.tree_set.specs.Sets.{Inserts, IsAscending, cut, element_at, has, keys_of, put, without}
use Rattle.tree_model.specs.Pairs as pairs

module _ {K V : Type 0} where
  -- a filter by the key, a search by it, and a fact on each key
  pub keys-filter : (test : K → Bool) (l : List (K × V)) → keys_of (filter (λ p. test p.0) l) ≡ filter test (keys_of l)
  keys-filter test [] = refl
  keys-filter test (p ∷ ps) = kept (test p.0) (keys-filter test ps)
    where
      kept : (b : Bool) → keys_of (filter (λ p. test p.0) ps) ≡ filter test (keys_of ps) → keys_of (cond b (p ∷ filter (λ p. test p.0) ps) (filter (λ p. test p.0) ps)) ≡ cond b (p.0 ∷ filter test (keys_of ps)) (filter test (keys_of ps))
      kept true rest = ap (λ (l : List K). p.0 ∷ l) rest
      kept false rest = rest

  pub keys-find : (test : K → Bool) (l : List (K × V)) → option_map (λ p. p.0) (find (λ p. test p.0) l) ≡ find test (keys_of l)
  keys-find test [] = refl
  keys-find test (p ∷ ps) = found (test p.0) (keys-find test ps)
    where
      found : (b : Bool) → option_map (λ p. p.0) (find (λ p. test p.0) ps) ≡ find test (keys_of ps) → option_map (λ p. p.0) (cond b (Some p) (find (λ p. test p.0) ps)) ≡ cond b (Some p.0) (find test (keys_of ps))
      found true rest = refl
      found false rest = rest

  pub keys-any : (test : K → Bool) (l : List (K × V)) → is_some (find (λ p. test p.0) l) ≡ list_any test (keys_of l)
  keys-any test [] = refl
  keys-any test (p ∷ ps) = found (test p.0) (keys-any test ps)
    where
      found : (b : Bool) → is_some (find (λ p. test p.0) ps) ≡ list_any test (keys_of ps) → is_some (cond b (Some p) (find (λ p. test p.0) ps)) ≡ (b || list_any test (keys_of ps))
      found true rest = refl
      found false rest = rest

  pub keys-all : (P : K → Type 0) (l : List (K × V)) → AllByRecursion (λ p. P p.0) l → AllByRecursion P (keys_of l)
  keys-all P [] h = tt
  keys-all P (p ∷ ps) h = (h.0, keys-all P ps h.1)

  all_pass : (l : List (K × V)) → AllByRecursion (λ p. true ≡ true) l
  all_pass [] = tt
  all_pass (p ∷ ps) = (refl, all_pass ps)

  pub keys-none : (l : List (K × V)) → keys_of l ≡ [] → l ≡ []
  keys-none [] none = refl
  keys-none (p ∷ ps) none = absurd (cc)

  -- bounds that are open on both sides
  pub all_within : (cmp : K → K → Ordering) (l : List (K × V)) → filter (λ p. pairs.within cmp Unbounded Unbounded p.0) l ≡ l
  all_within cmp l = filter_all (λ p. true) l (all_pass l)

  -- the first key and the last
  pub first_key : (l : List (K × V)) → option_map (λ p. p.0) (first_of l) ≡ first_of (keys_of l)
  first_key l = sym (slice_get-map (λ p. p.0) l 0)

  pub last_key : (l : List (K × V)) → option_map (λ p. p.0) (last_of l) ≡ last_of (keys_of l)
  last_key l = rw (length-map l (λ p. p.0)) (sym (slice_get-map (λ p. p.0) l _))

  module _ (cmp : K → K → Ordering) where
    pub keys-put : (l : List (K × V)) (k : K) (v : V) → keys_of (pairs.put cmp l k v) ≡ put cmp (keys_of l) k
    keys-put l k v =
        rw (map-append, keys-filter (λ x. is_lt (cmp x k)) l, keys-filter (λ x. is_gt (cmp x k)) l) refl

    pub keys-without : (l : List (K × V)) (k : K) → keys_of (pairs.without cmp l k) ≡ without cmp (keys_of l) k
    keys-without l k =
        rw (map-append, keys-filter (λ x. is_lt (cmp x k)) l, keys-filter (λ x. is_gt (cmp x k)) l) refl

    pub keys-cut : (l : List (K × V)) (low high : Bound K) → keys_of (pairs.cut cmp l low high) ≡ cut cmp (keys_of l) low high
    keys-cut l low high = keys-filter (λ x. not (pairs.within cmp low high x)) l

    pub keys_ascend : (l : List (K × V)) → pairs.IsAscending cmp l → IsAscending cmp (keys_of l)
    keys_ascend [] h = tt
    keys_ascend (p ∷ ps) h = (keys-all (λ k. cmp p.0 k ≡ Less) ps h.0, keys_ascend ps h.1)

    pub absent_key : (l : List (K × V)) (k : K) → pairs.IsAbsent cmp l k → has cmp (keys_of l) k ≡ false
    absent_key l k absent = sym (keys-any (λ x. is_eq (cmp x k)) l) ∙ ap is_some absent

    pub present_key : (l : List (K × V)) (k : K) → pairs.IsPresent cmp l k → has cmp (keys_of l) k ≡ true
    present_key l k present = sym (keys-any (λ x. is_eq (cmp x k)) l) ∙ present

    -- an answer that tells whether a key is present
    pub tells_key : (l : List (K × V)) (k : K) (told : Bool) → IsTrue told ↔ pairs.IsPresent cmp l k → told ≡ has cmp (keys_of l) k
    tells_key l k true tells = sym (present_key l k (tells.0 refl))
    tells_key l k false tells = elim (cases_Bool (has cmp (keys_of l) k)) [
      | inl some ↦ absurd (let told : false ≡ true = tells.1 (keys-any (λ x. is_eq (cmp x k)) l ∙ some) in cc)
      | inr none ↦ sym none
    ]

-- what an insert into the index says of the keys
module _ {K : Type 0} (cmp : K → K → Ordering) (old new : List (K × Unit {0})) (k : K) where
  pub inserted : pairs.IsAbsent cmp old k → new ≡ pairs.put cmp old k tt → Inserts cmp (keys_of old) k (Ok true) (keys_of new)
  inserted absent is = (absent_key cmp old k absent, ap keys_of is ∙ keys-put cmp old k tt)

  pub not_inserted : pairs.IsPresent cmp old k → new ≡ old → Inserts cmp (keys_of old) k (Ok false) (keys_of new)
  not_inserted present is = (present_key cmp old k present, ap keys_of is)

  pub refused : (back : K) → pairs.IsAbsent cmp old k → back ≡ k → new ≡ old → Inserts cmp (keys_of old) k (Err back) (keys_of new)
  refused back absent same is = (absent_key cmp old k absent, same, ap keys_of is)

module _ {K V : Type 0} (cmp : K → K → Ordering) where
  -- the key of the pair that a look-up found
  pub found_key : (l : List (K × V)) (k : K) (found : Option (Bor K × Bor V)) → MatchOption found (pairs.IsAbsent cmp l k) (λ pair. pairs.pair_at cmp l k ≡ Some (pair.0.now, pair.1.now))
      → option_copied (option_map (λ pair. pair.0) found) ≡ element_at cmp (keys_of l) k
  found_key l k None absent = sym (ap (option_map (λ p. p.0)) absent) ∙ keys-find (λ x. is_eq (cmp x k)) l
  found_key l k (Some pair) found = sym (ap (option_map (λ p. p.0)) found) ∙ keys-find (λ x. is_eq (cmp x k)) l

-- clones of pairs have clones of their keys
pub key_clones : {K V : Type 0} (IsKeyClone : K → K → Type 0) (IsValueClone : V → V → Type 0) (l m : List (K × V)) → AllZip (IsPairClone IsKeyClone IsValueClone) l m → AllZip IsKeyClone (keys_of l) (keys_of m)
key_clones IsKeyClone IsValueClone [] [] h = tt
key_clones IsKeyClone IsValueClone [] (q ∷ qs) h = h
key_clones IsKeyClone IsValueClone (p ∷ ps) [] h = h
key_clones IsKeyClone IsValueClone (p ∷ ps) (q ∷ qs) h = (h.0.key, key_clones IsKeyClone IsValueClone ps qs h.1)

-- pairs whose values are all equal are equal where their keys are
pub keys_equal : {K V : Type 0} (equal : K → K → Bool) (same : V → V → Bool) → ((u v : V) → same u v ≡ true) → (l m : List (K × V)) → pointwise (λ p q. equal p.0 q.0 && same p.1 q.1) l m ≡ pointwise equal (keys_of l) (keys_of m)
keys_equal equal same all [] [] = refl
keys_equal equal same all [] (q ∷ qs) = refl
keys_equal equal same all (p ∷ ps) [] = refl
keys_equal equal same all (p ∷ ps) (q ∷ qs) = rw (all p.1 q.1, keys_equal equal same all ps qs) (ap (λ b. b && pointwise equal (keys_of ps) (keys_of qs)) (and-true (equal p.0 q.0)))
