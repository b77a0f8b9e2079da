use Rattle.tree_slots.proofs.Common.{IsSend, Keyless, List, None, Option, RattleType, Some, Val}
use Rattle.tree_slots.specs.contracts.slot.Slot.{the_row}

owned : (T : RattleType) → IsSend T → (d : Option T.Denot) (vs : List Val) → Keyless ((the_row T).own_val d vs)
owned T s None vs = ((λ _. tt), tt)
owned T s (Some x) vs = ((λ _. tt), λ vss. (tt, (s.owned x vss.0, tt)))

pub send : (T : RattleType) → IsSend T → IsSend (the_row T)
send T s = record { owned = owned T s; leaving = λ k d w. tt }
