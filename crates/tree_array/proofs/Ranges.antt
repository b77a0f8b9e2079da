-- Arrivals within two bounds that are spent one by one.
use Rattle.std.proofs.Common.{◌≡◌, ◌≢◌, ℕ, ◌+◌, ◌<◌, ◌≤◌, true, false, List, [], map, length, Option, None, Some, refl, sym, ◌∙◌, ap, arith, not, ◌&&◌, ◌||◌, Ordering, is_eq, ext_get_or}
use Rattle.tree_array.proofs.Common.{Bound, IsTotalOrder, cases_eq, tied_itself, nat_tests, nil_from_length, cut, without, Arrivals, arrival, reachable, removed, sorted, spent_at, IsSound}
use Rattle.tree_array.proofs.Common.{equal_from_test, false_from_ne_true, length-map, none-some, cut_at, is_empty, without_range, entries-cut, entries-spend, all_spent}
use Rattle.tree_model.proofs.Common.{within}
use Rattle.tree_array.proofs.Dealt.{arrival-map}
use Rattle.tree_array.proofs.Seen.{same_arrays, unspent}

module _ {K V : Type 0} (cmp : K → K → Ordering) (low high : Bound K) where
  -- of the first arrivals those within the bounds are spent
  pub record IsCutTo (old : Arrivals K V) (n : ℕ) (new : Arrivals K V) : Type 0 where
    pub whole : length new.arrivals ≡ length old.arrivals
    pub cut : (p : ℕ) → p < n → arrival new.arrivals p ≡ cut_at cmp low high (arrival old.arrivals p)
    pub rest : (p : ℕ) → n ≤ p → arrival new.arrivals p ≡ arrival old.arrivals p
    pub entries : new.entries ≡ sorted cmp (reachable new.arrivals)
    pub retired : new.retired ≡ (old.retired || (not (is_empty old.entries) && is_empty new.entries))

  pub kept_outside : (key : K) (val : V) → within cmp low high key ≡ false → cut_at cmp low high (Some (key, val)) ≡ Some (key, val)
  kept_outside key val h = rw h refl

module _ {K V : Type 0} {cmp : K → K → Ordering} (o : IsTotalOrder cmp) (low high : Bound K) {len : ℕ} {old : Arrivals K V} (kept : IsSound cmp len old) where
  -- no arrival was looked at
  pub cut_none : IsCutTo cmp low high old 0 old
  cut_none = record {
    whole = refl;
    cut = λ p lt. absurd (omega arith);
    rest = λ p le. refl;
    entries = kept.sorted_arrivals;
    retired = elim old.retired as (λ b. b ≡ (b || (not (is_empty old.entries) && is_empty old.entries))) [ true ↦ refl | false ↦ elim (is_empty old.entries) as (λ x. false ≡ (not x && x)) [ true ↦ refl | false ↦ refl ] ];
  }

  module _ {n : ℕ} {mid : Arrivals K V} (so_far : IsCutTo cmp low high old n mid) where
    -- the next arrival stays
    pub cut_kept : cut_at cmp low high (arrival mid.arrivals n) ≡ arrival mid.arrivals n → IsCutTo cmp low high old (n + 1) mid
    cut_kept stays = record {
      whole = so_far.whole;
      cut = λ p lt. grind (arith, stays, so_far.rest n, so_far.cut p, cases_eq p n);
      rest = λ p le. so_far.rest p (omega arith);
      entries = so_far.entries;
      retired = so_far.retired;
    }

    -- the next arrival is taken
    module _ (key : K) (val : V) (there : arrival mid.arrivals n ≡ Some (key, val)) (inside : within cmp low high key ≡ true) {new : Arrivals K V} (new_is : new ≡ removed cmp mid key) where
      was : arrival old.arrivals n ≡ Some (key, val)
      was = sym (so_far.rest n (omega arith)) ∙ there

      -- no other arrival has its key
      other : (p : ℕ) → p ≢ n → (e : K × V) → arrival old.arrivals p ≡ Some e → is_eq (cmp e.0 key) ≡ false
      other p differs e some = false_from_ne_true _ (λ h. differs (kept.distinct p n e (key, val) some was (equal_from_test _ h)))

      cut_other : (a : Option (K × V)) → ((e : K × V) → a ≡ Some e → is_eq (cmp e.0 key) ≡ false) → spent_at cmp key (cut_at cmp low high a) ≡ cut_at cmp low high a
      cut_other a others = grind (arith, unspent cmp key a others)

      -- so the array wasn't empty, nor retired
      some_entry : old.entries ≡ [] → ⊥
      some_entry none = none-some (key, val) (sym (all_spent old.arrivals (nil_from_length (reachable old.arrivals) (omega (arith, kept.count, ap length none))) n) ∙ was)

      full_test : is_empty old.entries ≡ false
      full_test = false_from_ne_true _ (λ empty. some_entry (nil_from_length old.entries (grind (arith, nat_tests))))

      live : old.retired ≡ false
      live = false_from_ne_true _ (λ retired. some_entry (kept.none_retired retired))

      pub cut_taken : IsCutTo cmp low high old (n + 1) new
      cut_taken = rw new_is record {
        whole = length-map mid.arrivals (spent_at cmp key) ∙ so_far.whole;
        cut = λ p lt. grind (arith, arrival-map (spent_at cmp key) refl mid.arrivals p, cases_eq p n, there, was, tied_itself o key, inside, so_far.cut p, cut_other (arrival old.arrivals p), other p);
        rest = λ p le.
            let differs : p ≢ n = λ e. omega arith in
            arrival-map (spent_at cmp key) refl mid.arrivals p ∙ ap (spent_at cmp key) (so_far.rest p (omega arith)) ∙ unspent cmp key (arrival old.arrivals p) (other p differs);
        entries = ap (λ (entries : List (K × V)). without cmp entries key) so_far.entries ∙ sym (entries-spend o mid.arrivals key);
        retired = rw (full_test, live) refl;
      }

    -- all arrivals were looked at
    pub cut_all : length old.arrivals ≤ n → mid ≡ without_range cmp old low high
    cut_all past =
        let arrivals_cut = ext_get_or None mid.arrivals (map (cut_at cmp low high) old.arrivals) (so_far.whole ∙ sym (length-map old.arrivals (cut_at cmp low high))) (λ p lt. so_far.cut p (omega (arith, lt, so_far.whole, past)) ∙ sym (arrival-map (cut_at cmp low high) refl old.arrivals p)) in
        let sorted_cut = ap (λ (arrivals : List (Option (K × V))). sorted cmp (reachable arrivals)) arrivals_cut ∙ entries-cut o old.arrivals low high in
        let entries_cut = so_far.entries ∙ sorted_cut ∙ ap (λ (entries : List (K × V)). cut cmp entries low high) (sym kept.sorted_arrivals) in
        same_arrays _ _ _ _ _ _ arrivals_cut (so_far.retired ∙ ap (λ (entries : List (K × V)). old.retired || (not (is_empty old.entries) && is_empty entries)) entries_cut) entries_cut
