use Rattle.std.proofs.Common.{◌≡◌, ◌+◌, ◌≤◌, ◌^◌, ◌-◌, map, min, sum}
use Rattle.usage.proofs.stock.pieces.Given as goal

-- the pieces so far and those that are left
abbrev pub invariant-loop-count : goal.invariant-loop-count
invariant-loop-count l = (l.pieces ≤ 2 ^ 64 - 1) × (min (l.pieces + sum l.count-iterator) (2 ^ 64 - 1) ≡ min (sum (map (λ pair. pair.1) l.fn.stock.pairs)) (2 ^ 64 - 1))
