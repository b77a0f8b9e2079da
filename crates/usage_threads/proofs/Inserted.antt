-- What the calls of several passes came to, by each of which the same number of inserts was answered.
use Rattle.std.proofs.Common.{◌≡◌, ℕ, suc, ◌*◌, List, [], ◌∷◌, length, sum_by, All, ap, subst, sym, arith}
use Rattle.std.proofs.lemmas.List.Elements.{All-head, All-tail}
use Rattle.std.proofs.lemmas.List.Sums.{sum_by-cons}
use Rattle.tree_state.specs.Tallies.{sum_of, tally_of}
use Rattle.tree_state.specs.declared.tally.Tally.{Tally}
use Rattle.usage_threads.specs.Inserts.{IsOfInserts}

module _ (n : ℕ) where
  -- a number that is the same in each of them
  all_count : (f : Tally → ℕ) (m : ℕ) → ((t : Tally) → IsOfInserts n t → f t ≡ m) → (ts : List Tally) → All (IsOfInserts n) ts → sum_by f ts ≡ length ts * m
  all_count f m counts [] each = omega arith
  all_count f m counts (t ∷ ts) each =
      let one = counts t (All-head (IsOfInserts n) t ts each) in let rest = all_count f m counts ts (All-tail (IsOfInserts n) t ts each) in subst (λ s. s ≡ suc (length ts) * m) (sym (sum_by-cons f t ts)) (omega (arith, one, rest))

  -- together they are as many inserts
  pub all_inserted : (ts : List Tally) → All (IsOfInserts n) ts → IsOfInserts (length ts * n) (sum_of ts)
  all_inserted ts each =
      let calls : sum_by (λ (t : Tally). t.calls) ts ≡ length ts * n = all_count (λ t. t.calls) n (λ t is. ap (λ (u : Tally). u.calls) is) ts each in
      let removed : sum_by (λ (t : Tally). t.removed) ts ≡ 0 = omega (arith, all_count (λ t. t.removed) 0 (λ t is. ap (λ (u : Tally). u.removed) is) ts each) in
      let found : sum_by (λ (t : Tally). t.found) ts ≡ 0 = omega (arith, all_count (λ t. t.found) 0 (λ t is. ap (λ (u : Tally). u.found) is) ts each) in
      let done : sum_by (λ (t : Tally). t.done) ts ≡ 0 = omega (arith, all_count (λ t. t.done) 0 (λ t is. ap (λ (u : Tally). u.done) is) ts each) in
      λ i. tally_of (calls i) (sum_by (λ (t : Tally). t.stored) ts) (removed i) (found i) (done i)
