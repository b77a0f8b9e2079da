use Rattle.tree_slots.proofs.Common.{IsSync, Keyless, Lft, None, Option, RattleType, Some, offset, ℕ, ◌+◌}
use Rattle.tree_slots.specs.contracts.slot.Slot.{the_row}

shared : (T : RattleType) → IsSync T → (d : Option T.Denot) (b o : ℕ) (κ : Lft) → Keyless ((the_row T).shr_at d b o κ)
shared T s None b o κ = tt
shared T s (Some x) b o κ = s.shared x b (o + offset T) κ

pub sync : (T : RattleType) → IsSync T → IsSync (the_row T)
sync T s = record { shared = shared T s }
