-- The children of a node fit in memory where the node does, of either kind.
use Rattle.std.proofs.Common.{ℕ, ◌+◌, ◌<◌, ◌^◌, max, arith}
use prog.Memory.{up}
use Rattle.tree_split.proofs.Words.{last_field, before_last, in_some}

-- what the first variant of an enum holds
pub first_variant_fits : (align tag other size : ℕ) → up align (max (up tag 1 + size) other) < 2 ^ 63 → size < 2 ^ 63
first_variant_fits align tag other size h = omega arith

-- what the second of two holds
pub second_variant_fits : (align before tag size : ℕ) → up align (max before (max (up tag 1 + size) 1)) < 2 ^ 63 → size < 2 ^ 63
second_variant_fits align before tag size h = omega arith

-- the steps from arenas to the children of a node
pub ruleset children_fit = (before_last, first_variant_fits, second_variant_fits, in_some, last_field)
