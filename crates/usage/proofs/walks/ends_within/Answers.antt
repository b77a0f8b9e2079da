use Rattle.std.proofs.Common.{refl}
use Rattle.usage.proofs.Prices.{ends_none, ends_one, ends_two}
use Rattle.usage.proofs.walks.ends_within.Goals as goal

-- no item is within the bounds
pub returns-in_err-first : goal.returns-in_err-first
returns-in_err-first c =
    rw (c.from_residual.ensures, ← c.as_ref.ensures, ← c.as_ref-2.ensures)
    (ends_none _ _ (record { forward = refl; backward = refl }) (rw c.range-offers.ensures at c.in_err-first.ensures.steps))

-- more than one is
pub returns-in-Some : goal.returns-in-Some
returns-in-Some c =
    rw (← c.as_ref.ensures, ← c.as_ref-2.ensures)
    (ends_two _ _ (record { forward = refl; backward = refl }) _ (rw c.range-offers.ensures at c.in_ok-first.ensures.steps) _ _ c.in-Some.ensures.steps)

-- or one is
pub returns-in-None : goal.returns-in-None
returns-in-None c =
    rw (← c.as_ref.ensures, ← c.as_ref-2.ensures)
    (ends_one _ _ (record { forward = refl; backward = refl }) _ (rw c.range-offers.ensures at c.in_ok-first.ensures.steps) _ c.in-None.ensures.steps)
