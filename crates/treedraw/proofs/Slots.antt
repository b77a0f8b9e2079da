-- A walk over the slots of an array, each of which has a key.
use Rattle.tree_parts.proofs.Common.{◌≡◌, ℕ, List, map, drop, Some, None, IsSome, Arrivals, On, Steps, Walk, arrival, place_ahead, standing}
use Rattle.tree_parts.proofs.InTurn.{reachable_at}
pub use Rattle.tree_parts.specs.Children.{IsOverKeyed}

module _ {K X : Type 0} (keyed : Arrivals K X) where
  -- it begins
  pub begins : (walk fresh : Walk) (slots : List ℕ) → walk ≡ fresh → fresh ≡ standing slots None → map (arrival keyed.arrivals) (drop (place_ahead fresh.at) fresh.slots) ≡ map Some keyed.entries → IsOverKeyed keyed walk
  begins walk fresh slots same is over = rw (same, is) (rw is at over)

  module _ (old new : Walk) (slot : ℕ) (over : IsOverKeyed keyed old) (step : Steps On old (Some slot) new) where
    pub reaches : IsSome (arrival keyed.arrivals slot)
    reaches = reachable_at keyed old over (place_ahead old.at) slot step.1.1

    pub goes_on : IsOverKeyed keyed new
    goes_on = rw step.0 over
