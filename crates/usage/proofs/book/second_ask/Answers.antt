use Rattle.std.proofs.Common.{refl}
use Rattle.usage.proofs.Prices.{second_of_none, second_of_one, second_of_two}
use Rattle.usage.proofs.book.second_ask.Goals as goal

-- there is no ask
pub returns-in_err-next : goal.returns-in_err-next
returns-in_err-next c = rw (c.from_residual.ensures, second_of_none _ _ (rw c.iter-left.ensures at c.in_err-next.ensures.steps)) refl

-- there is one
pub returns-in_err-price : goal.returns-in_err-price
returns-in_err-price c =
    rw (c.from_residual-in_err-price.ensures, second_of_one _ _ _ (rw c.iter-left.ensures at c.in_ok-next.ensures.steps) _ c.in_err-price.ensures.steps) refl

-- or there are two or more
pub returns : goal.returns
returns c = rw (second_of_two _ _ _ (rw c.iter-left.ensures at c.in_ok-next.ensures.steps) _ _ c.in_ok-price.ensures.steps) refl
