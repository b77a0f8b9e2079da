-- Prices that are equal have the same cents.
use Rattle.std.specs.Prelude.{◌≡◌}
use Rattle.std.proofs.Common.{ap}
use Rattle.usage.specs.declared.keys.Price.{Price}

pub same_cents : (x y : Price) → y ≡ x → y.cents ≡ x.cents
same_cents x y same = ap (λ (price : Price). price.cents) same
