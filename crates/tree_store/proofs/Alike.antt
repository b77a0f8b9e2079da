-- Lists that are seen alike stay so under records that are.
use Rattle.std.proofs.Common.{◌≡◌, ℕ, Bool, List, [], ◌∷◌, ◌++◌, filter, map, Option, Some, None, refl, sym, ◌∙◌, ap, subst, arith, Ordering, is_lt, is_le, is_gt}
use Rattle.std.proofs.lemmas.Bool.{cases_Bool}
use Rattle.std.specs.Range.Bound.{bound_map}
use Rattle.std.specs.declared.ops.Bound.{Bound}
use Rattle.std.specs.declared.ops.Bound.TheVariants.{Included, Excluded, Unbounded}
use Rattle.std.specs.declared.cmp.Ordering.TheVariants.{Equal}
use Rattle.store_codec.specs.Records.{record_map}
use Rattle.store_codec.specs.declared.records.Record.{Record}
use Rattle.store_codec.specs.declared.records.Record.TheVariants.{Put, Remove, Cut, Clear}
use Rattle.tree_model.proofs.Common.{IsTotalOrder, alike_right}
use Rattle.tree_model.specs.Pairs.{below, above, cut, put, without, meets_lower, meets_upper}
use Rattle.tree_store.specs.Changes.{changed, changed_by, Leads, ReadsRecords}
use Rattle.store_pair.specs.Pair.{Held}
use Rattle.tree_store.specs.Laws.{AreAlike}
use Rattle.tree_store.specs.Store.{StandFor}
use Rattle.tree_store.proofs.Saved.{pair_once}

module _ {K V A B : Type 0} (seen_key : K → A) (seen_value : V → B) where
  alike-append : (a b c d : List (K × V)) → AreAlike seen_key seen_value a b → AreAlike seen_key seen_value c d → AreAlike seen_key seen_value (a ++ c) (b ++ d)
  alike-append [] [] c d h t = t
  alike-append (p ∷ ps) (q ∷ qs) c d h t = (h.0, h.1, alike-append ps qs c d h.2 t)
  alike-append [] (q ∷ qs) c d h t = absurd h
  alike-append (p ∷ ps) [] c d h t = absurd h

  -- two tests that say the same of keys that are seen alike keep pairs that are
  alike-filter : (test other : K → Bool) → ((x y : K) → seen_key x ≡ seen_key y → test x ≡ other y)
      → (ps qs : List (K × V)) → AreAlike seen_key seen_value ps qs → AreAlike seen_key seen_value (filter (λ p. test p.0) ps) (filter (λ q. other q.0) qs)
  alike-filter test other alike [] [] h = tt
  alike-filter test other alike (p ∷ ps) (q ∷ qs) h = grind (arith, cases_Bool, alike p.0 q.0 h.0, alike-filter test other alike ps qs h.2)
  alike-filter test other alike [] (q ∷ qs) h = absurd h
  alike-filter test other alike (p ∷ ps) [] h = absurd h

-- a text has one list of records
records_once : {A B : Type 0} (read : List ℕ → Option (Record A B × List ℕ)) (none : read [] ≡ None) (xs ys : List (Record A B)) (text : List ℕ) → ReadsRecords read xs text → ReadsRecords read ys text → xs ≡ ys
records_once read none [] [] text a b = refl
records_once {A = A} {B = B} read none (x ∷ xs) (y ∷ ys) text a b =
    let pair : (x, a.0) ≡ (y, b.0) = cc (a.1, b.1) in
    let same : a.0 ≡ b.0 = ap (λ (p : Record A B × List ℕ). p.1) pair in
    let first : x ≡ y = ap (λ (p : Record A B × List ℕ). p.0) pair in
    let more : xs ≡ ys = records_once read none xs ys b.0 (subst (ReadsRecords read xs) same a.2) b.2 in
    cc (first, more)
records_once read none [] (y ∷ ys) text a b = let e : read [] ≡ Some (y, b.0) = ap read (sym a) ∙ b.1 in let z : ⊥ = cc (none, e) in absurd z
records_once read none (x ∷ xs) [] text a b = let e : read [] ≡ Some (x, a.0) = ap read (sym b) ∙ a.1 in let z : ⊥ = cc (none, e) in absurd z

module _ {K V A B : Type 0} {cmp : K → K → Ordering} (o : IsTotalOrder cmp) (seen_key : K → A) (seen_value : V → B) (law : (x y : K) → seen_key x ≡ seen_key y → cmp x y ≡ Equal) where
  alike_cmp : (x y key k : K) → seen_key x ≡ seen_key y → seen_key key ≡ seen_key k → cmp x key ≡ cmp y k
  alike_cmp x y key k one other = o.congr x y key (law x y one) ∙ alike_right o key k y (law key k other)

  alike_lower : (low f : Bound K) → bound_map seen_key low ≡ bound_map seen_key f → (x y : K) → seen_key x ≡ seen_key y → meets_lower cmp low x ≡ meets_lower cmp f y
  alike_lower (Included low) (Included f) same x y e = let key : seen_key low ≡ seen_key f = cc same in ap is_le (alike_cmp low f x y key e)
  alike_lower (Excluded low) (Excluded f) same x y e = let key : seen_key low ≡ seen_key f = cc same in ap is_lt (alike_cmp low f x y key e)
  alike_lower Unbounded Unbounded same x y e = refl
  alike_lower low f same x y e = let z : ⊥ = cc same in absurd z

  alike_upper : (high u : Bound K) → bound_map seen_key high ≡ bound_map seen_key u → (x y : K) → seen_key x ≡ seen_key y → meets_upper cmp high x ≡ meets_upper cmp u y
  alike_upper (Included high) (Included u) same x y e = let key : seen_key high ≡ seen_key u = cc same in ap is_le (alike_cmp x y high u e key)
  alike_upper (Excluded high) (Excluded u) same x y e = let key : seen_key high ≡ seen_key u = cc same in ap is_lt (alike_cmp x y high u e key)
  alike_upper Unbounded Unbounded same x y e = refl
  alike_upper high u same x y e = let z : ⊥ = cc same in absurd z

  module _ (old other : List (K × V)) (h : AreAlike seen_key seen_value old other) where
    alike-side : (side : Ordering → Bool) (key k : K) → seen_key key ≡ seen_key k → AreAlike seen_key seen_value (filter (λ p. side (cmp p.0 key)) old) (filter (λ q. side (cmp q.0 k)) other)
    alike-side side key k same = alike-filter seen_key seen_value (λ x. side (cmp x key)) (λ y. side (cmp y k)) (λ x y e. ap side (alike_cmp x y key k e same)) old other h

    alike_changed : (r q : Record K V) → record_map seen_key seen_value r ≡ record_map seen_key seen_value q → AreAlike seen_key seen_value (changed cmp r old) (changed cmp q other)
    alike_changed (Put key value_) (Put k v) same =
        let e : seen_key key ≡ seen_key k = cc same in
        let f : seen_value value_ ≡ seen_value v = cc same in
        alike-append seen_key seen_value (below cmp old key) (below cmp other k) ((key, value_) ∷ above cmp old key) ((k, v) ∷ above cmp other k) (alike-side is_lt key k e) (e, f, alike-side is_gt key k e)
    alike_changed (Remove key) (Remove k) same =
        let e : seen_key key ≡ seen_key k = cc same in
        alike-append seen_key seen_value (below cmp old key) (below cmp other k) (above cmp old key) (above cmp other k) (alike-side is_lt key k e) (alike-side is_gt key k e)
    alike_changed (Cut low high) (Cut f u) same =
        let lows : bound_map seen_key low ≡ bound_map seen_key f = cc same in
        let highs : bound_map seen_key high ≡ bound_map seen_key u = cc same in
        alike-filter seen_key seen_value _ _ (λ x y e. rw (alike_lower low f lows x y e, alike_upper high u highs x y e) refl) old other h
    alike_changed Clear Clear same = tt
    alike_changed r q same = let z : ⊥ = cc same in absurd z

  pub alike_changed_by : (rs qs : List (Record K V)) → map (record_map seen_key seen_value) rs ≡ map (record_map seen_key seen_value) qs → (old other : List (K × V)) → AreAlike seen_key seen_value old other → AreAlike seen_key seen_value (changed_by cmp rs old) (changed_by cmp qs other)
  alike_changed_by [] [] same old other h = h
  alike_changed_by (r ∷ rs) (q ∷ qs) same old other h =
      let first : record_map seen_key seen_value r ≡ record_map seen_key seen_value q = cc same in
      let more : map (record_map seen_key seen_value) rs ≡ map (record_map seen_key seen_value) qs = cc same in
      alike_changed_by rs qs more (changed cmp r old) (changed cmp q other) (alike_changed old other h r q first)
  alike_changed_by [] (q ∷ qs) same old other h = let z : ⊥ = cc same in absurd z
  alike_changed_by (r ∷ rs) [] same old other h = let z : ⊥ = cc same in absurd z

  module _ (read : List ℕ → Option (Record A B × List ℕ)) (none : read [] ≡ None) where
    alike_led : (texts : List (List ℕ)) (old other new last : List (K × V)) → AreAlike seen_key seen_value old other → Leads cmp seen_key seen_value read texts old new → Leads cmp seen_key seen_value read texts other last → AreAlike seen_key seen_value new last
    alike_led [] old other new last h a b = subst (λ (l : List (K × V)). AreAlike seen_key seen_value l last) (sym a) (subst (AreAlike seen_key seen_value old) (sym b) h)
    alike_led (text ∷ texts) old other new last h a b =
        let same = records_once read none (map (record_map seen_key seen_value) a.0) (map (record_map seen_key seen_value) b.0) text a.1 b.1 in
        alike_led texts (changed_by cmp a.0 old) (changed_by cmp b.0 other) new last (alike_changed_by a.0 b.0 same old other h) a.2 b.2

    pub stand_once : (kinds : ℕ × ℕ) (held : Held) (one other : List (K × V)) → StandFor cmp seen_key seen_value read kinds held one → StandFor cmp seen_key seen_value read kinds held other → AreAlike seen_key seen_value one other
    stand_once kinds held one other a b =
        let texts = (pair_once held a.head b.head a.texts b.texts a.has b.has).0 in
        alike_led b.texts [] [] one other tt (subst (λ (t : List (List ℕ)). Leads cmp seen_key seen_value read t [] one) texts a.leads) b.leads
