-- What workers came to that did nothing but insert.
use Rattle.std.proofs.Common.{◌≡◌, ℕ, ◌*◌, ◌≤◌, List, length, sum_by, All, ap, arith}
use Rattle.std.proofs.lemmas.List.Elements.{All-weaker}
use Rattle.std.proofs.lemmas.List.Sums.{sum_by-le}
use Rattle.tree_state.specs.Tallies.{sum_of, tally_of}
use Rattle.tree_state.specs.declared.tally.Tally.{Tally}
use Rattle.tree_shared.specs.Workers.{OnlyInserts}

module _ (n : ℕ) (ts : List Tally) (each : All (OnlyInserts n) ts) where
  -- what no worker counted comes to nothing
  none_of : (f : Tally → ℕ) → ((t : Tally) → OnlyInserts n t → f t ≤ 0) → sum_by f ts ≡ 0
  none_of f zero = omega (arith, sum_by-le f 0 ts (All-weaker (OnlyInserts n) (λ t. f t ≤ 0) zero ts each))

  -- together they did nothing but insert
  pub all_inserted : (count : ℕ) → count ≡ length ts → OnlyInserts (count * n) (sum_of ts)
  all_inserted count is =
      let calls = sum_by-le (λ (t : Tally). t.calls) n ts (All-weaker (OnlyInserts n) (λ t. t.calls ≤ n) (λ t only. only.0) ts each) in
      let removed : sum_by (λ (t : Tally). t.removed) ts ≡ 0 = none_of (λ t. t.removed) (λ t only. omega (arith, ap (λ (u : Tally). u.removed) only.1)) in
      let found : sum_by (λ (t : Tally). t.found) ts ≡ 0 = none_of (λ t. t.found) (λ t only. omega (arith, ap (λ (u : Tally). u.found) only.1)) in
      let done : sum_by (λ (t : Tally). t.done) ts ≡ 0 = none_of (λ t. t.done) (λ t only. omega (arith, ap (λ (u : Tally). u.done) only.1)) in
      rw is (calls, λ i. tally_of (sum_by (λ (t : Tally). t.calls) ts) (sum_by (λ (t : Tally). t.stored) ts) (removed i) (found i) (done i))
