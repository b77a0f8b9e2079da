-- A place that parts the keys of a node, as the place at which a cut begins or ends.
use Rattle.std.proofs.Common.{◌≡◌, ℕ, true, false, List, length, refl, arith, Ordering, Less, Greater, is_ge}
use Rattle.tree_model.proofs.Common.{Bound, Unbounded, drop_all}
use Rattle.tree_model.specs.Pairs.{meets_lower, meets_upper}
use Rattle.tree_array.proofs.Common.{greater_from_less}
use Rattle.tree_node.proofs.Common.{IsTotalOrder, all_map, all_yes, upto_from_test, upto_less}
use Rattle.tree_array.specs.Spans.{PartsAt}
use Rattle.tree_clean_up.specs.Places.{BeginsAt, EndsAt}

module _ {K : Type 0} {cmp : K → K → Ordering} (o : IsTotalOrder cmp) where
  module _ {X : Type 0} {key : K} {pairs : List (K × X)} {place : ℕ} (parts : PartsAt cmp key pairs place) where
    -- what is above a separator that isn't less than the key is above the key
    over : (s k : K) → is_ge (cmp s key) ≡ true → cmp s k ≡ Less → cmp key k ≡ Less
    over s k h above = upto_less o key s k (upto_from_test o s key h) above

    -- a cut begins there at a bound that what is above the key meets, and what is below it misses
    pub begins_at : (low : Bound K) → ((k : K) → cmp key k ≡ Less → meets_lower cmp low k ≡ true) → ((k : K) → cmp key k ≡ Greater → meets_lower cmp low k ≡ false)
        → BeginsAt cmp low pairs place
    begins_at low met missed = record {
      within = parts.within;
      missed = all_map (λ c h. missed c.0 (greater_from_less o c.0 key h)) _ parts.smaller;
      opened = all_map (λ c h k above. met k (over c.0 k h above)) _ parts.others;
    }

    pub ends_at : (high : Bound K) → ((k : K) → cmp k key ≡ Less → meets_upper cmp high k ≡ true) → ((k : K) → cmp k key ≡ Greater → meets_upper cmp high k ≡ false)
        → EndsAt cmp high pairs place
    ends_at high met missed = record {
      within = parts.within;
      met = all_map (λ c h. met c.0 h) _ parts.smaller;
      closed = all_map (λ c h k above. missed k (greater_from_less o key k (over c.0 k h above))) _ parts.others;
    }

  pub begins_open : {X : Type 0} (pairs : List (K × X)) → BeginsAt cmp Unbounded pairs 0
  begins_open pairs = record { within = omega arith; missed = tt; opened = all_yes (λ c k above. refl) _ }

  pub ends_open : {X : Type 0} (pairs : List (K × X)) (place : ℕ) → place ≡ length pairs → EndsAt cmp Unbounded pairs place
  ends_open pairs place is = record { within = omega (arith, is); met = all_yes (λ c. refl) _; closed = rw (drop_all place pairs (omega (arith, is))) tt }
