-- The balance of an account.
use Rattle.std.specs.Prelude.{ℕ, List}
use Rattle.std.specs.Option.{option_map, unwrap_or}
use Rattle.std.specs.Ordering.{nat_cmp}
use Rattle.tree_model.specs.Pairs.{pair_at}

-- 0 if there is none
abbrev pub balance_of : List (ℕ × ℕ) → ℕ → ℕ
balance_of balances account = unwrap_or (option_map (λ pair. pair.1) (pair_at nat_cmp balances account)) 0
